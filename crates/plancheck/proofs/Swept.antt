-- One sweep in the order of the starts shows that no two subtasks clash and that none waits while a processor is free. Assumes nothing.
use Rattle.std.proofs.Common.{◌≡◌, refl, sym, ap, ◌∙◌, subst, ◌≢◌, ⊎_elim, List, [], ℕ, zero, suc, ◌+◌, ◌%◌, ◌≤◌, ◌<◌, arith, length, get_or, set, replicate, length-set, below_more}
use Rattle.std.proofs.Math.Decide.{dec_lt, ℕ_discrete}
use Rattle.std.proofs.Math.ListN.{length-replicate}
use Rattle.std.proofs.Math.Logic.{by_cases}
use Rattle.terms.specs.Graphs.{Among, IsSubtask}
use Rattle.terms.specs.Plans.{processor_of, start_of, end_of, FreeAt}
use Rattle.terms.specs.declared.Entry.{Entry}
use Rattle.theory.proofs.Pigeonhole.{onto}
use Rattle.forms.proofs.PlanEnds.{start_next}
use Rattle.theory.proofs.Stores.{read_set}
use Rattle.plancheck.specs.Known.{Timed}
use Rattle.plancheck.specs.Scans.{Clash}
use Rattle.plancheck.specs.Sweeps.{Sweepable, SlackAt, ApartAndBusy, Low}

-- the subtask at place x of a row of keys
unfoldable pub nth : List ℕ → ℕ → ℕ
nth row x = get_or row x 0 % 256 + 1

-- a row of noughts
all_nought : (n i : ℕ) → ◌≡◌ {A = ℕ} (get_or (replicate n 0) i 0) 0
all_nought zero i = refl
all_nought (suc n) zero = refl
all_nought (suc n) (suc i) = all_nought n i

module _ (times : List ℕ) (M : ℕ) (plan : List Entry) (ready row : List ℕ) where
  -- the first k subtasks of the row are swept; the last of them starts at `before`
  pub record Swept (until : List ℕ) (before slack k : ℕ) : Type 0 where
    pub upto : k ≤ length times
    pub long : length until ≡ 17
    pub each : (x : ℕ) → x < k → IsSubtask times (nth row x)
    pub begun : (x : ℕ) → x < k → start_of plan (nth row x) ≤ before
    -- on each processor: one ends where the row of ends says, and none later
    pub last : (p : ℕ) → 0 < get_or until p 0 → (x : ℕ) × (x < k) × (processor_of plan (nth row x) ≡ p) × (end_of times plan (nth row x) ≡ get_or until p 0)
    pub ended : (x : ℕ) → x < k → end_of times plan (nth row x) ≤ get_or until (processor_of plan (nth row x)) 0
    pub apart : (x y : ℕ) → x < y → y < k → processor_of plan (nth row x) ≡ processor_of plan (nth row y) → end_of times plan (nth row x) ≤ start_of plan (nth row y)
    -- every slack instant before the last start lies before the end of the latest slack; no swept subtask was ready at one
    pub slack_ends : (t p : ℕ) → t < before → Among 1 M p → FreeAt times plan p t → t < slack
    pub busy : (x : ℕ) → x < k → (t p : ℕ) → t < start_of plan (nth row x) → Among 1 M p → FreeAt times plan p t
        → t < get_or ready (nth row x) 0

  pub swept_none : Swept (replicate 17 0) 0 0 0
  swept_none = record {
    upto = omega arith;
    long = length-replicate {A = ℕ} 17 0;
    each = λ x l. absurd (omega (arith, l));
    begun = λ x l. absurd (omega (arith, l));
    last = λ p l. absurd (nought p l);
    ended = λ x l. absurd (omega (arith, l));
    apart = λ x y l m. absurd (omega (arith, m));
    slack_ends = λ t p l. absurd (omega (arith, l));
    busy = λ x l. absurd (omega (arith, l));
  }
    where
      nought : (p : ℕ) → ¬ (0 < get_or (replicate 17 0) p 0)
      nought p l = omega (arith, l, all_nought 17 p)

module _ {times : List ℕ} {M : ℕ} {plan : List Entry} {ready : List ℕ} (laid : Sweepable times M plan ready) where
  -- a processor is not free while a subtask runs on it
  taken : (j t p : ℕ) → IsSubtask times j → processor_of plan j ≡ p → start_of plan j ≤ t → t < end_of times plan j → ¬ FreeAt times plan p t
  taken j t p s e b u free = free j s e (record { placed = (laid.placed j s).low; begun = b; unended = u })

  module _ {row until : List ℕ} {before slack k : ℕ} (h : Swept times M plan ready row until before slack k) (l : k < length times)
      {j s p slack' e : ℕ} (is : j ≡ nth row k) (high : j ≤ length times) (start : s ≡ start_of plan j) (rises : before ≤ s) (on : p ≡ processor_of plan j)
      (clear : get_or until p 0 ≤ s) (slacks : SlackAt until M s slack slack') (due : slack' ≤ get_or ready j 0) (end : e ≡ end_of times plan j) where
    subtask : IsSubtask times j
    unfolding nth
    subtask = record { low = omega (arith, is); high = high }

    room : p < length until
    room = omega (arith, (laid.placed j subtask).high, laid.processors, on, h.long)

    later : s ≤ e
    unfolding end_of
    later = omega (arith, end, start)

    -- the slack before s
    slack_to : (t q : ℕ) → t < s → Among 1 M q → FreeAt times plan q t → t < slack'
    slack_to t q b a free =
        ⊎_elim (λ r. omega (arith, r, b))
        (λ r. by_cases (dec_lt t before) (λ o. omega (arith, r.0, h.slack_ends t q o a free)) (λ o. absurd (ran o (r.1 q a)))) slacks
      where
        ran : ¬ (t < before) → ¬ (s ≤ get_or until q 0)
        ran o u =
            let w = h.last q (omega (arith, u, b)) in
            taken (nth row w.0) t q (h.each w.0 w.1) w.2 (omega (arith, h.begun w.0 w.1, o)) (omega (arith, w.3, u, b)) free

    pub swept_more : Swept times M plan ready row (set until p e) s slack' (k + 1)
    swept_more = record {
      upto = omega (arith, l);
      long = length-set until p e ∙ h.long;
      each = below_more (λ x. IsSubtask times (nth row x)) k h.each (rw (← is) subtask);
      begun = below_more (λ x. start_of plan (nth row x) ≤ s) k (λ x b. omega (arith, h.begun x b, rises)) (rw (← is) (omega (arith, start)));
      last = λ q. read_set (λ v. 0 < v → (x : ℕ) × (x < k + 1) × (processor_of plan (nth row x) ≡ q) × (end_of times plan (nth row x) ≡ v)) until p e q room
          (λ c _. (k, omega arith, rw (← is) (sym on ∙ sym c), rw (← is) (sym end)))
          (λ c v. let w = h.last q v in (w.0, omega (arith, w.1), w.2, w.3));
      ended = below_more (λ x. end_of times plan (nth row x) ≤ get_or (set until p e) (processor_of plan (nth row x)) 0) k
          (λ x b. read_set (λ v. end_of times plan (nth row x) ≤ v) until p e (processor_of plan (nth row x)) room
          (λ c. omega (arith, on_same x b c, clear, later)) (λ c. h.ended x b))
          (rw (← is) (read_set (λ v. end_of times plan j ≤ v) until p e (processor_of plan j) room (λ c. omega (arith, end)) (λ c. absurd (c (sym on)))));
      apart = λ x y b c q. by_cases (ℕ_discrete y k) (λ z. new_apart x y b z q) (λ z. h.apart x y b (omega (arith, c, z)) q);
      slack_ends = slack_to;
      busy =
          below_more (λ x. (t q : ℕ) → t < start_of plan (nth row x) → Among 1 M q → FreeAt times plan q t → t < get_or ready
          (nth row x) 0) k h.busy
          (rw (← is) (λ t q b a free. omega (arith, slack_to t q (omega (arith, b, start)) a free, due)));
    }
      where
        on_same : (x : ℕ) → x < k → processor_of plan (nth row x) ≡ p → end_of times plan (nth row x) ≤ get_or until p 0
        on_same x b c = subst (λ (q : ℕ). end_of times plan (nth row x) ≤ get_or until q 0) c (h.ended x b)

        new_apart : (x y : ℕ) → x < y → y ≡ k → processor_of plan (nth row x) ≡ processor_of plan (nth row y)
            → end_of times plan (nth row x) ≤ start_of plan (nth row y)
        new_apart x y b z q =
            let w : nth row y ≡ j = ap (nth row) z ∙ sym is in
            let v : processor_of plan (nth row x) ≡ p = q ∙ ap (processor_of plan) w ∙ sym on in
            rw w (omega (arith, on_same x (omega (arith, b, z)) v, clear, start))

  -- all are swept
  pub swept_all : {row until : List ℕ} {before slack k : ℕ} → Swept times M plan ready row until before slack k → length times ≤ k
      → ApartAndBusy times M plan ready
  unfolding end_of
  swept_all {row} {k = k} h l = record {
    apart = λ i j s q c. distinct i j c (at i s) (at j q);
    busy = λ j t p s due b a free.
        let x = at j s in
        let w : t < get_or ready j 0 = rw x.2 at (h.busy x.0 (inside x.1) t p (rw x.2 b) a free) in
        omega (arith, w, due);
  }
    where
      inside : {x : ℕ} → x < length times → x < k
      inside b = omega (arith, b, l)

      once : (x y : ℕ) → x < y → y < length times → nth row x ≢ nth row y
      once x y b c e =
          let w : end_of times plan (nth row x) ≤ start_of plan (nth row x) = rw (← e) at (h.apart x y b (inside c) (ap (processor_of plan) e)) in
          omega (arith, w, laid.positive (nth row x) (h.each x (omega (arith, b, c, l))))

      at : (j : ℕ) → IsSubtask times j → (x : ℕ) × (x < length times) × (nth row x ≡ j)
      at = onto (length times) (nth row) (λ x b. h.each x (inside b)) once

      distinct : (i j : ℕ) → Clash times plan i j → (x : ℕ) × (x < length times) × (nth row x ≡ i) → ¬ ((y : ℕ) × (y < length times) × (nth row y ≡ j))
      distinct i j c (x, b, e) (y, d, f) = by_cases (dec_lt x y)
          (λ o.
          let w : end_of times plan i ≤ start_of plan j = rw (e, f) at (h.apart x y o (inside d) (rw (e, f) c.same)) in
          omega (arith, w, c.right))
          (λ o. by_cases (dec_lt y x)
          (λ u.
          let w : end_of times plan j ≤ start_of plan i = rw (e, f) at (h.apart y x u (inside b) (rw (e, f) (sym c.same))) in
          omega (arith, w, c.left))
          (λ u.
          let z : x ≡ y = omega (arith, o, u) in
          let w : i ≡ j = sym e ∙ ap (nth row) z ∙ f in
          omega (arith, w, c.after)))

-- one processor more that is not free before s
pub full_more : (until : List ℕ) (s p : ℕ) → ((q : ℕ) → Among 1 p q → s ≤ get_or until q 0) → s ≤ get_or until (p + 1) 0 → (q : ℕ) → Among 1 (p + 1) q
    → s ≤ get_or until q 0
full_more until s p h l q a = by_cases (ℕ_discrete q (p + 1)) (λ e. rw e l) (λ e. h q (record { low = a.low; high = omega (arith, a.high, e) }))

-- ---- for the code

pub nth_is : (row : List ℕ) (x j : ℕ) → j ≡ get_or row x 0 % 256 + 1 → j ≡ nth row x
unfolding nth
nth_is row x j e = e

-- every processor has its place in a row of 17
pub until_room : {times : List ℕ} {M : ℕ} {plan : List Entry} {ready : List ℕ} {j p : ℕ} → Sweepable times M plan ready → IsSubtask times j
    → p ≡ processor_of plan j → p < 17
until_room {j = j} laid s e = omega (arith, (laid.placed j s).high, laid.processors, e)

pub low_starts : {times : List ℕ} {plan : List Entry} → Timed times plan → Low plan
low_starts {plan = plan} timed = record {
  few = omega (arith, timed.few, timed.whole);
  low = λ i l.
      let x : start_of plan (i + 1) ≤ 16776960 = timed.low (i + 1) (record { low = omega arith; high = omega (arith, l, timed.whole) }) in
      rw (start_next [] plan i) at x;
}
