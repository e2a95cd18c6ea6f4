-- 13 to 15, asked of each subtask: from what the scans say to the answer of the table. Assumes nothing.
use Rattle.std.proofs.Common.{◌≡◌, refl, List, ℕ, ◌≤◌, ◌<◌, None, Some, length, get_or, arith}
use Rattle.std.proofs.Math.Decide.{dec_le}
use Rattle.std.proofs.Math.Logic.{by_cases}
use Rattle.terms.specs.Rows.{RefusedBy, Smallest}
use Rattle.terms.specs.Graphs.{Among, IsSubtask, from_of, Precedes}
use Rattle.terms.specs.Plans.{processor_of, start_of, end_of}
use Rattle.terms.specs.Refusals.{StartsEarly, SubtaskAt, on_rows, plan_rows, check_rows}
use Rattle.terms.specs.declared.Entry.{Entry}
use Rattle.terms.specs.declared.Refusal.{Refusal}
use Rattle.terms.specs.declared.Subtask.{Subtask}
use Rattle.terms.proofs.Decisions.{Tells}
use Rattle.terms.proofs.Decide.{dec_among, undenied}
use Rattle.theory.specs.First.{IsFirstSubtask}
use Rattle.theory.proofs.Accepted.{accepted_on}
use Rattle.theory.proofs.Answers.{Passed, begin, past, past_all, from}
use Rattle.theory.proofs.Firsts.{first_subtask_is, first_subtask_ne0}
use Rattle.theory.proofs.Stops.{subtask_at_lem, stop_subtask}
use Rattle.plancheck.specs.Known.{Given, Timed, LatestEnds}

-- none of 1 to 8 and 12 to 15 holds
pub record Prepared (times : List ℕ) (arrows : List (List ℕ)) (M : ℕ) (plan : List Entry) (ready : List ℕ) : Type 0 where
  pub given : Given times arrows M plan
  pub placed : (j : ℕ) → IsSubtask times j → Among 1 M (processor_of plan j)
  pub timed : Timed times plan
  pub row : LatestEnds times arrows plan (length arrows) ready
  pub ordered : (j : ℕ) → IsSubtask times j → get_or ready j 0 ≤ start_of plan j

-- the plan is refused by a refusal that tells this number and these places
abbrev pub RefusedWith : List ℕ → List (List ℕ) → ℕ → List Entry → ℕ → ℕ → ℕ → Refusal → Type 0
RefusedWith times arrows M plan k place second r = Tells r k place second → RefusedBy (check_rows times arrows M plan) r

-- none of 1 to 8 and of 12 to those before number k holds
abbrev pub Left : List ℕ → List (List ℕ) → ℕ → List Entry → ℕ → Type 0
Left times arrows M plan k = Passed (check_rows times arrows M plan) (from k (plan_rows times arrows M plan))

-- the subtask that a scan answers is the smallest that is so
first_at : {times : List ℕ} {n : ℕ} {Scanned IsSo : ℕ → Type 0} {j : Subtask} → n ≡ length times → ((i : ℕ) → IsSubtask times i → Scanned i → IsSo i)
    → ((i : ℕ) → IsSubtask times i → IsSo i → Scanned i) → IsFirstSubtask n Scanned (Some j) → Smallest (SubtaskAt times IsSo) j.0
first_at {n = n} {Scanned} {IsSo} e f g is = subtask_at_lem Scanned IsSo e f g (first_subtask_is n Scanned is) (first_subtask_ne0 n Scanned is)

module _ {times : List ℕ} {arrows : List (List ℕ)} {M : ℕ} {plan : List Entry} (given : Given times arrows M plan) where
  in_plan : {j : ℕ} → IsSubtask times j → Among 1 (length plan) j
  in_plan s = record { low = s.low; high = omega (arith, s.high, given.whole) }

  left_13 : Left times arrows M plan 13
  unfolding check_rows plan_rows from
  left_13 = past (past_all (on_rows times arrows M) (begin (check_rows times arrows M plan))
      (accepted_on times arrows M given.graph given.processors)) (λ h. h given.whole)

  -- ---- 13
  pub answer_13 : {a : Subtask} → IsFirstSubtask (length plan) (λ j. ¬ Among 1 M (processor_of plan j)) (Some a)
      → {r : Refusal} → RefusedWith times arrows M plan 13 a.0 0 r
  unfolding plan_rows from
  answer_13 f = stop_subtask left_13 (first_at given.whole (λ j _ x. x) (λ j _ x. x) f)

  pub placed_by : IsFirstSubtask (length plan) (λ j. ¬ Among 1 M (processor_of plan j)) None → (j : ℕ) → IsSubtask times j → Among 1 M (processor_of plan j)
  unfolding IsFirstSubtask
  placed_by f j s = undenied (dec_among 1 M (processor_of plan j)) (f j (in_plan s))

  pub timed_by : IsFirstSubtask (length plan) (λ j. 16776960 < start_of plan j) None → Timed times plan
  unfolding IsFirstSubtask
  timed_by f = record {
    few = given.graph.count.high;
    whole = given.whole;
    low = λ j s. by_cases (dec_le (start_of plan j) 16776960) (λ l. l) (λ l. absurd (f j (in_plan s) (omega arith)));
  }

  module _ (placed : (j : ℕ) → IsSubtask times j → Among 1 M (processor_of plan j)) where
    left_14 : Left times arrows M plan 14
    unfolding plan_rows from
    left_14 = past left_13 (λ h. h.is_so (placed h.subtask h.is_subtask))

    -- ---- 14
    pub answer_14 : {b : Subtask} → IsFirstSubtask (length plan) (λ j. 16776960 < start_of plan j) (Some b)
        → {r : Refusal} → RefusedWith times arrows M plan 14 b.0 0 r
    unfolding plan_rows from
    answer_14 f = stop_subtask left_14 (first_at given.whole (λ j _ x. x) (λ j _ x. x) f)

    pub left_15 : Timed times plan → Left times arrows M plan 15
    unfolding plan_rows from
    left_15 timed = past left_14 (λ h. omega (arith, h.is_so, timed.low h.subtask h.is_subtask))

    -- ---- 15
    module _ (timed : Timed times plan) {ready : List ℕ} (latest : LatestEnds times arrows plan (length arrows) ready) where
      -- no predecessor ends later than the row says
      pub served : (i j : ℕ) → Precedes arrows i j → IsSubtask times j → end_of times plan i ≤ get_or ready j 0
      served i j w s =
          let x = (latest.each j (omega (arith, s.high, timed.few))).most w.place w.inside w.arrives in
          rw w.begins at x

      -- to start before the row says is to start before a predecessor ends
      starts_early : (j : ℕ) → IsSubtask times j → start_of plan j < get_or ready j 0 → StartsEarly times arrows plan j
      starts_early j s l =
          let w = (latest.each j (omega (arith, s.high, timed.few))).reached (omega (arith, l)) in record {
            predecessor = from_of arrows w.0;
            precedes = record { place = w.0; inside = w.1; begins = refl; arrives = w.2 };
            early = omega (arith, l, w.3);
          }

      pub answer_15 : {d : Subtask} → IsFirstSubtask (length plan) (λ j. start_of plan j < get_or ready j 0) (Some d)
          → {r : Refusal} → RefusedWith times arrows M plan 15 d.0 0 r
      unfolding plan_rows from
      answer_15 f = stop_subtask (left_15 timed) (first_at given.whole starts_early
          (λ j s x. omega (arith, x.early, served x.predecessor j x.precedes s)) f)

      pub prepared_by : IsFirstSubtask (length plan) (λ j. start_of plan j < get_or ready j 0) None → Prepared times arrows M plan ready
      unfolding IsFirstSubtask
      prepared_by f = record {
        given = given;
        placed = placed;
        timed = timed;
        row = latest;
        ordered = λ j s. by_cases (dec_le (get_or ready j 0) (start_of plan j)) (λ l. l) (λ l. absurd (f j (in_plan s) (omega arith)));
      }
