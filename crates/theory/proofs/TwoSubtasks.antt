-- Small graphs for the dummies: two subtasks, no arrows. Assumes nothing.
use Rattle.std.proofs.Common.{◌≡◌, refl, ◌∙◌, ◌≢◌, ◌⊎◌, inl, inr, List, [], ◌∷◌, ℕ, zero, suc, ◌+◌, ◌-◌, ◌*◌, ◌≤◌, ◌<◌, le_refl, arith, length, get_or}
use Rattle.terms.specs.Rows.{Accepted}
use Rattle.terms.specs.Graphs.{Among, IsSubtask, time_of, Precedes, LeadsTo, step, more}
use Rattle.terms.specs.Sums.{sum}
use Rattle.terms.specs.Paths.{total_work, PathTo, alone, along, weight, IsLongest}
use Rattle.terms.specs.Verdicts.{bound, AreFigures}
use Rattle.terms.specs.Plans.{at, processor_of, start_of, end_of, Placed, IdleAt}
use Rattle.terms.specs.ListRule.{IsOrder}
use Rattle.terms.specs.Refusals.{graph_rows, list_rows}
use Rattle.terms.specs.declared.Entry.{Entry}
use Rattle.terms.specs.declared.Figures.{Figures}
use Rattle.theory.specs.Sound.{SoundGraph}
use Rattle.theory.proofs.SoundPlans.{BusyPlan}
use Rattle.theory.proofs.Accepted.{accepted_graph, accepted_list}
use Rattle.theory.proofs.Paths.{one_longest}

-- ---- graphs without arrows

pub none_precedes : {i j : ℕ} → ¬ Precedes [] i j
none_precedes w = omega (arith, w.inside)

pub loose_sound : (times : List ℕ) → Among 1 256 (length times) → ((j : ℕ) → IsSubtask times j → 1 ≤ time_of times j) → SoundGraph times []
loose_sound times count positive = record {
  count = count;
  positive = positive;
  few = omega arith;
  named = λ a l. absurd (omega arith);
  apart = λ a l e. omega arith;
  once = λ a b l m e. omega arith;
  acyclic = λ j l. never l;
}
  where
    never : {i j : ℕ} → ¬ LeadsTo [] i j
    never (step w) = none_precedes w
    never (more l w) = none_precedes w

loose_longest : (times : List ℕ) (j : ℕ) → IsSubtask times j → ((i : ℕ) → IsSubtask times i → time_of times i ≤ time_of times j)
    → IsLongest times [] (time_of times j)
unfolding weight
loose_longest times j s most = record { reached = (j, alone j s, refl); most = λ i p. one p }
  where
    one : {i : ℕ} (p : PathTo times [] i) → weight p ≤ time_of times j
    one (alone i r) = most i r
    one (along p i w) = absurd (none_precedes w)

-- two subtasks, of times t and u
pub both : (P : ℕ → Type 0) → P 1 → P 2 → (j : ℕ) → Among 1 2 j → P j
both P p q zero r = absurd (omega (arith, r.low))
both P p q (suc zero) r = p
both P p q (suc (suc zero)) r = q
both P p q (suc (suc (suc j))) r = absurd (omega (arith, r.high))

pub first : Among 1 2 1
first = record { low = omega arith; high = omega arith }

pub second : Among 1 2 2
second = record { low = omega arith; high = omega arith }

pub pair_sound : (t u : ℕ) → 1 ≤ t → 1 ≤ u → SoundGraph (t ∷ u ∷ []) []
unfolding time_of
pair_sound t u l m = loose_sound (t ∷ u ∷ []) (record { low = omega arith; high = omega arith }) (both (λ j. 1 ≤ time_of (t ∷ u ∷ []) j) l m)

pub pair_longest : (t u : ℕ) → t ≤ u → IsLongest (t ∷ u ∷ []) [] u
unfolding time_of
pair_longest t u l = loose_longest (t ∷ u ∷ []) 2 second (both (λ j. time_of (t ∷ u ∷ []) j ≤ u) l (le_refl u))

pub pair_total : (t u : ℕ) → total_work (t ∷ u ∷ []) ≡ t + u
unfolding total_work sum time_of
pair_total t u = omega arith

abbrev pub in_turn : List ℕ
in_turn = 1 ∷ 2 ∷ []

pub pair_order : (t u : ℕ) → IsOrder (t ∷ u ∷ []) in_turn
pair_order t u = record { whole = refl; each = each; once = once }
  where
    each : (x : ℕ) → x < 2 → Among 1 2 (get_or in_turn x 0)
    each zero l = first
    each (suc zero) l = second
    each (suc (suc x)) l = absurd (omega arith)

    once : (x y : ℕ) → x < y → y < 2 → get_or in_turn x 0 ≢ get_or in_turn y 0
    once zero zero l m e = omega arith
    once zero (suc zero) l m e = omega arith
    once zero (suc (suc y)) l m e = omega arith
    once (suc x) zero l m e = omega arith
    once (suc x) (suc y) l m e = omega arith

pub one_processor : Among 1 16 1
one_processor = record { low = omega arith; high = omega arith }

-- where the verdict is given, its figures are those of the pair
pub pair_figures : (t u M D : ℕ) (figures : Figures) → t ≤ u → AreFigures (t ∷ u ∷ []) [] M D figures
    → (figures.c ≡ t + u) × (figures.p ≡ u) × (figures.s ≡ (t + u) + (M - 1) * u)
unfolding bound
pair_figures t u M D figures l f =
    let c : figures.c ≡ t + u = f.work ∙ pair_total t u in
    let p : figures.p ≡ u = one_longest figures.p u f.path (pair_longest t u l) in
    (c, p, rw (← c, ← p) f.sum)

pub pair_listed : (t u room : ℕ) → 1 ≤ t → 1 ≤ u → 2 ≤ room → Accepted (list_rows (t ∷ u ∷ []) [] 1 in_turn room)
pair_listed t u room l m r = accepted_list (t ∷ u ∷ []) [] 1 in_turn room (pair_sound t u l m) one_processor (pair_order t u) r

-- ---- two times 1, one after the other on processor 1

abbrev pub short : List ℕ
short = 1 ∷ 1 ∷ []

pub short_sound : SoundGraph short []
short_sound = pair_sound 1 1 (omega arith) (omega arith)

pub short_accepted : Accepted (graph_rows short [])
short_accepted = accepted_graph short [] short_sound

abbrev pub turns : List Entry
turns = at 1 0 ∷ at 1 1 ∷ []

turns_processor : (j : ℕ) → IsSubtask short j → processor_of turns j ≡ 1
unfolding processor_of
turns_processor = both (λ j. processor_of turns j ≡ 1) refl refl

turns_start : (j : ℕ) → IsSubtask short j → start_of turns j ≡ j - 1
unfolding start_of
turns_start = both (λ j. start_of turns j ≡ j - 1) refl refl

turns_end : (j : ℕ) → IsSubtask short j → end_of short turns j ≡ j
unfolding start_of end_of time_of
turns_end = both (λ j. end_of short turns j ≡ j) refl refl

pub turns_busy : BusyPlan short [] 1 turns
turns_busy = record {
  sound = record {
    processors = one_processor;
    whole = refl;
    placed = λ j s. record { low = omega (arith, turns_processor j s); high = omega (arith, turns_processor j s) };
    starts = λ j s. omega (arith, s.high, turns_start j s);
    ordered = λ i j w. absurd (none_precedes w);
    apart = λ i j t r s d e x y.
        omega (arith, r.low, s.low, d, x.begun, x.unended, y.begun, y.unended, turns_start i r, turns_end i r, turns_start j s, turns_end j s);
  };
  busy = λ t d. idle t d d.ready.waiting;
}
  where
    idle : (t : ℕ) (d : IdleAt short [] 1 turns t) → (t < start_of turns d.subtask) ⊎ (¬ Placed turns d.subtask) → ⊥
    idle t d (inl l) =
        let z : t ≡ 0 = omega (arith, d.is_subtask.high, turns_start d.subtask d.is_subtask) in
        d.free 1 first (omega (arith, turns_processor 1 first, d.in_range.low, d.in_range.high)) (record {
          placed = omega (arith, turns_processor 1 first);
          begun = omega (arith, turns_start 1 first);
          unended = omega (arith, turns_end 1 first);
        })
    idle t d (inr h) = h (omega (arith, turns_processor d.subtask d.is_subtask))
