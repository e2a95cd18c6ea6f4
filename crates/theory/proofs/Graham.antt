-- Graham's bound: an accepted plan of an accepted graph on M processors ends at some E with M × E ≤ S, so by the sure end. Assumes nothing.
use Rattle.std.proofs.Common.{◌≡◌, inl, inr, ⊎_elim, List, ℕ, suc, ◌+◌, ◌-◌, ◌*◌, ◌≤◌, ◌<◌, mul-le-mul_left, arith, length}
use mathlib.Core.Logic.Dec
use Rattle.std.proofs.Math.Logic.{by_cases}
use Rattle.std.proofs.Math.Decide.{dec_le, dec_lt}
use Rattle.terms.specs.Graphs.{Among, IsSubtask, time_of, Precedes}
use Rattle.terms.specs.Paths.{total_work, PathTo, alone, along, weight, IsLongest}
use Rattle.terms.specs.Verdicts.{bound, sure_end}
use Rattle.terms.specs.Plans.{start_of, end_of, EndsAt, ReadyAt, FreeAt}
use Rattle.terms.specs.Replies.{IsChecked}
use Rattle.terms.specs.declared.Entry.{Entry}
use Rattle.theory.specs.Sound.{SoundGraph}
use Rattle.theory.proofs.SoundPlans.{BusyPlan}
use Rattle.theory.proofs.Accepted.{from_subtask, busy_plan}
use Rattle.terms.specs.Sums.{sum}
use Rattle.theory.specs.Counting.{bit}
use Rattle.theory.proofs.Sums.{sum_zero, sum_le, sum_add, sum_const, sum_scale, sum_mono, sum_upto, sum_cut, bit_yes, bit_no, bit_le}
use Rattle.theory.proofs.Search.{search, LastOrNone, last, strong}
use Rattle.theory.proofs.Running.{dec_precedes, running, counted, running_sum, free_when_fewer}
use Rattle.theory.proofs.NoGap.{some_runs}
use Rattle.theory.proofs.Bounds.{bound_mono, at_most_sure_end}
use Rattle.std.specs.Prelude.{Ok}

module _ (times : List ℕ) (arrows : List (List ℕ)) (M : ℕ) (plan : List Entry) (g : SoundGraph times arrows) (a : BusyPlan times arrows M plan) where
  -- where a processor is free at t, a subtask that starts later is held back by a predecessor that ends after t: else it were ready
  held : (j t p : ℕ) → IsSubtask times j → t < start_of plan j → Among 1 M p → FreeAt times plan p t → (k : ℕ) × Precedes arrows k j × (t < end_of times plan k)
  held j t p s l in_range free =
      ⊎_elim (λ found. (found.0, found.2.0, found.2.1))
      (λ h. absurd (a.busy t (record { subtask = j; is_subtask = s; ready = ready h; processor = p; in_range = in_range; free = free })))
      (search (length times) Holds (λ k. Dec.and (dec_precedes arrows k j) (dec_lt t (end_of times plan k))))
    where
      Holds : ℕ → Type 0
      Holds k = Precedes arrows k j × (t < end_of times plan k)

      ready : ((k : ℕ) → IsSubtask times k → ¬ Holds k) → ReadyAt times arrows plan j t
      ready h = record {
        served = λ i w. (
          (a.sound.placed i (from_subtask g w)).low,
          by_cases (dec_le (end_of times plan i) t) (λ x. x) (λ x. absurd (h i (from_subtask g w) (w, omega arith))),
        );
        waiting = inl l;
      }

  -- a predecessor starts earlier
  earlier : (k j : ℕ) → Precedes arrows k j → start_of plan k < start_of plan j
  unfolding end_of
  earlier k j w =
      let x : start_of plan k + time_of times k ≤ start_of plan j = a.sound.ordered k j w in
      let y : 1 ≤ time_of times k = g.positive k (from_subtask g w) in
      omega arith

  -- up to the end of the plan something runs
  never_idle : (E t : ℕ) → EndsAt times plan E → t < E → 1 ≤ running times plan t
  never_idle E t e l =
      let j = e.reached.0 in
      let s = e.reached.1 in
      by_cases (dec_lt t (start_of plan j))
      (λ y. some_runs times arrows M plan t g a.sound.processors.low (a.busy t) j s (inl y))
      (λ y. counted times plan j t s (record { placed = (a.sound.placed j s).low; begun = omega arith; unended = rw e.reached.2 l }))

  -- 1 at an instant at which fewer than M run
  slack : ℕ → ℕ
  slack t = bit (dec_lt (running times plan t) M)

  -- the instants before j's end at which fewer than M run are at most as many as a path to j weighs
  slack_path : (j : ℕ) → IsSubtask times j → (p : PathTo times arrows j) × (sum (end_of times plan j) slack ≤ weight p)
  unfolding slack weight end_of
  slack_path = strong (λ j. IsSubtask times j → (p : PathTo times arrows j) × (sum (end_of times plan j) slack ≤ weight p)) (start_of plan) method
    where
      method : (j : ℕ)
          → ((k : ℕ) → start_of plan k < start_of plan j → IsSubtask times k → (p : PathTo times arrows k) × (sum (end_of times plan k) slack ≤ weight p))
          → IsSubtask times j → (p : PathTo times arrows j) × (sum (end_of times plan j) slack ≤ weight p)
      method j ih s = go (last (start_of plan j) (λ t. running times plan t < M) (λ t. dec_lt (running times plan t) M))
        where
          tail : sum (start_of plan j + time_of times j) slack ≤ sum (start_of plan j) slack + time_of times j
          tail = sum_upto (start_of plan j) (time_of times j) slack (λ t. bit_le (dec_lt (running times plan t) M))

          go : LastOrNone (start_of plan j) (λ t. running times plan t < M) → (p : PathTo times arrows j) × (sum (end_of times plan j) slack ≤ weight p)
          go (inr h) =
              let z : sum (start_of plan j) slack ≡ 0 = sum_zero (start_of plan j) slack (λ u l. bit_no (dec_lt (running times plan u) M) (h u l)) in
              (alone j s, omega (arith, tail))
          go (inl (u, l, f, h)) =
              let q = free_when_fewer times plan M u f in
              let r = held j u q.0 s l q.1 q.2 in
              let k = r.0 in
              let i = ih k (earlier k j r.1) (from_subtask g r.1) in
              let cut : sum (start_of plan j) slack ≡ sum (suc u) slack =
              sum_cut (suc u) (start_of plan j) slack l (λ v x y. bit_no (dec_lt (running times plan v) M) (h v x y)) in
              let up : sum (suc u) slack ≤ sum (end_of times plan k) slack = sum_mono (suc u) (end_of times plan k) slack r.2 in
              (along i.0 j r.1, omega (arith, tail, i.1))

  -- at each instant: M run, or one runs and the instant is slack
  filled : (E t : ℕ) → EndsAt times plan E → t < E → M ≤ running times plan t + (M - 1) * slack t
  unfolding slack
  filled E t e l = by_cases (dec_lt (running times plan t) M)
      (λ x. let one : slack t ≡ 1 = bit_yes (dec_lt (running times plan t) M) x in
      rw one (omega (arith, never_idle E t e l)))
      (λ x. omega arith)

  -- the bound, over the path that ends last
  graham_path : (E : ℕ) → EndsAt times plan E → (j : ℕ) × (p : PathTo times arrows j) × (M * E ≤ bound (total_work times) (weight p) M)
  unfolding bound
  graham_path E e =
      let j = e.reached.0 in
      let q = slack_path j e.reached.1 in
      let s : sum E slack ≤ weight q.0 = rw e.reached.2 at q.1 in
      let x : sum E (λ t. M) ≤ sum E (λ t. running times plan t + (M - 1) * slack t) = sum_le E _ _ (λ t l. filled E t e l) in
      let y = sum_add E (λ t. running times plan t) (λ t. (M - 1) * slack t) in
      let z = sum_scale E (M - 1) slack in
      let c = running_sum times plan E (λ j s. ((a.sound.placed j s).low, e.most j s)) in
      let k = sum_const E M in
      let p : (M - 1) * sum E slack ≤ (M - 1) * weight q.0 = mul-le-mul_left (M - 1) s in
      (j, q.0, omega arith)

  -- the bound
  graham : (E P : ℕ) → EndsAt times plan E → IsLongest times arrows P → M * E ≤ bound (total_work times) P M
  graham E P e q =
      let x = graham_path E e in
      omega (arith, x.2, bound_mono (total_work times) (weight x.1) P M (q.most x.0 x.1))

-- the bound over the promises: where the plan check replies E, M × E is at most S
pub graham_bound : (times : List ℕ) (arrows : List (List ℕ)) (M : ℕ) (plan : List Entry) (E P : ℕ) → IsChecked times arrows M plan (Ok E)
    → IsLongest times arrows P
    → M * E ≤ bound (total_work times) P M
unfolding IsChecked
graham_bound times arrows M plan E P c l = let b = busy_plan times arrows M plan c.0 in graham times arrows M plan b.0 b.1 E P c.1 l

-- and so in whole microseconds: every accepted plan ends at S / M rounded down or before
pub ends_by_sure_end : (times : List ℕ) (arrows : List (List ℕ)) (M : ℕ) (plan : List Entry) (E P : ℕ) → IsChecked times arrows M plan (Ok E)
    → IsLongest times arrows P
    → E ≤ sure_end (bound (total_work times) P M) M
unfolding IsChecked
ends_by_sure_end times arrows M plan E P c l =
    at_most_sure_end (bound (total_work times) P M) M E (busy_plan times arrows M plan c.0).1.sound.processors.low (graham_bound times arrows M plan E P c l)
