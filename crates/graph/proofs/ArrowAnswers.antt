-- From what the scans and the order say to the answer of the rows 4 to 7, and of 4 alone. Assumes nothing.
use Rattle.std.proofs.Common.{refl, ℕ, ◌+◌, ◌≤◌, ◌<◌, false, true, List, [], ◌∷◌, length, arith, ◌≢◌, Some, None}
use mathlib.Core.Logic.Dec
use Rattle.std.proofs.Math.Logic.{by_cases}
use Rattle.std.proofs.Math.Decide.{dec_le}
use Rattle.terms.specs.Rows.{Smallest, Accepted, RefusedBy}
use Rattle.terms.specs.Graphs.{Among, from_of, to_of, LeadsTo}
use Rattle.terms.specs.Refusals.{first_arrow, NamesOutside, Repeats, count_rows, time_rows, subtask_rows, size_rows, arrow_rows}
use Rattle.terms.specs.declared.Refusal.{Refusal}
use Rattle.terms.specs.declared.Refusal.TheVariants.{ArrowOutside, ArrowTwice, Cycle}
use Rattle.terms.proofs.Decisions.{told}
use Rattle.terms.specs.declared.Subtask.{Subtask}
use Rattle.terms.proofs.Decide.{dec_among, undenied}
use Rattle.theory.specs.First.{IsFirst, IsFirstSubtask}
use Rattle.theory.proofs.Firsts.{first_place, no_first_place}
use Rattle.theory.proofs.Stops.{arrow_at, no_arrow, stop_arrow, stop_lowest}
use Rattle.theory.proofs.Answers.{begin, past, done, from, Before, holds_of, none_holds}
use Rattle.graph.specs.Scans.{Outside, Loops, AllJoin}
use Rattle.graph.specs.Chains.{Tidy}
use Rattle.graph.specs.Ordered.{Ordered}
use Rattle.graph.specs.Finds.{WrongEnds, names_outside, none_outside}
use Rattle.graph.proofs.NoCycle.{leads_to_subtask, no_cycle}

-- as each subtask that is on a cycle is of 1..n, the scan answers the lowest
lowest_found : {n : ℕ} {arrows : List (List ℕ)} → Tidy n arrows → (x : Subtask) → IsFirstSubtask n (λ j. LeadsTo arrows j j) (Some x)
    → Smallest (λ j. LeadsTo arrows j j) x.0
unfolding IsFirstSubtask
lowest_found tidy x (_, cycle, least) = record { is_so = cycle; least = λ y l h. least y (leads_to_subtask tidy h).low l h }

-- and there is one, where some subtask is on one
pub some_lowest : {n : ℕ} {arrows : List (List ℕ)} → Tidy n arrows → ((j : ℕ) × LeadsTo arrows j j) → ¬ IsFirstSubtask n (λ j. LeadsTo arrows j j) None
unfolding IsFirstSubtask
some_lowest tidy (j, cycle) none = none j (leads_to_subtask tidy cycle) cycle

pub lowest_small : {n : ℕ} {arrows : List (List ℕ)} → Tidy n arrows → (x : Subtask) → IsFirstSubtask n (λ j. LeadsTo arrows j j) (Some x) → x.0 ≤ 256
unfolding IsFirstSubtask
lowest_small tidy x f = omega (arith, f.0.high, tidy.subtasks)

-- where some arrow has wrong ends and none names a subtask outside, some goes from a subtask to itself
pub some_loop : (n : ℕ) (arrows : List (List ℕ)) → AllJoin n arrows (length arrows) false → IsFirst (length arrows) (Outside n arrows) None
    → ¬ IsFirst (length arrows) (Loops arrows) None
unfolding IsFirst
some_loop n arrows (a, l, bad) named apart =
    let ends : Among 1 n (from_of arrows a) × Among 1 n (to_of arrows a) = undenied (Dec.and (dec_among 1 n _) (dec_among 1 n _)) (named a l) in
    bad (record { from_in = ends.0; to_in = ends.1; apart = apart a l })

-- a place that was found is in the row
pub found_small : (arrows : List (List ℕ)) (IsSo : ℕ → Type 0) (i : ℕ) → length arrows ≤ 2048 → IsFirst (length arrows) IsSo (Some i) → i < 2048
unfolding IsFirst
found_small arrows IsSo i l f = omega (arith, f.inside, l)

module _ (times : List ℕ) (arrows : List (List ℕ)) where
  -- ---- 1 to 3 do not hold: the tables are large enough
  pub few : Accepted (subtask_rows times) × Accepted (size_rows arrows) → (length times ≤ 256) × (length arrows ≤ 2048)
  unfolding subtask_rows count_rows time_rows size_rows holds_of
  few (a, b) = (
    (undenied (dec_among 1 256 (length times)) (none_holds 1 (subtask_rows times) a)).high,
    by_cases (dec_le (length arrows) 2048) (λ l. l) (λ l. absurd (none_holds 3 (size_rows arrows) b (omega arith))),
  )

  -- ---- 4 and 5: some arrow has wrong ends
  pub refused_ends : {r : Refusal} → WrongEnds (length times) arrows r → RefusedBy (arrow_rows times arrows) r
  unfolding arrow_rows
  refused_ends (names_outside i scan) = stop_arrow (begin (arrow_rows times arrows)) (arrow_at (first_place _ _ i scan) (λ z. omega (arith, z))) told
  refused_ends (none_outside i scan loops) =
      stop_arrow (past (begin (arrow_rows times arrows)) (no_arrow (no_first_place _ _ scan) refl)) (arrow_at (first_place _ _ i loops) (λ z. omega (arith, z))) told

  -- 4 alone
  pub no_outside : IsFirst (length arrows) (Outside (length times) arrows) None → Accepted (first_arrow 4 arrows (NamesOutside times arrows) ∷ [])
  unfolding Accepted
  no_outside scan = (no_arrow (no_first_place _ _ scan) refl, tt)

  pub some_outside : (i : ℕ) → IsFirst (length arrows) (Outside (length times) arrows) (Some i)
      → RefusedBy (first_arrow 4 arrows (NamesOutside times arrows) ∷ []) (ArrowOutside (i + 1))
  some_outside i scan = stop_arrow {a = ArrowOutside (i + 1)} (begin (first_arrow 4 arrows (NamesOutside times arrows) ∷ [])) (arrow_at (first_place _ _ i scan) (λ z. omega (arith, z))) told

  pub all_named : AllJoin (length times) arrows (length arrows) true → Accepted (first_arrow 4 arrows (NamesOutside times arrows) ∷ [])
  unfolding Accepted
  all_named all = ((λ s. let two = all s.place s.inside in s.is_so (two.from_in, two.to_in)), tt)

  -- neither holds: each arrow goes from a subtask to another
  pub record Joined : Type 0 where
    pub tidy : Tidy (length times) arrows
    pub apart : (a : ℕ) → a < length arrows → from_of arrows a ≢ to_of arrows a

  pub joined : Accepted (subtask_rows times) × Accepted (size_rows arrows) → AllJoin (length times) arrows (length arrows) true → Joined
  joined sizes two = record {
    tidy = record { subtasks = (few sizes).0; few = (few sizes).1; from_in = λ a l. (two a l).from_in; to_in = λ a l. (two a l).to_in };
    apart = λ a l. (two a l).apart;
  }

  -- ---- 6 and 7
  module _ (j : Joined) where
    before_6 : Before 6 (arrow_rows times arrows)
    unfolding arrow_rows from
    before_6 =
        let r4 = past (begin (arrow_rows times arrows)) (λ s. s.is_so (j.tidy.from_in s.place s.inside, j.tidy.to_in s.place s.inside)) in
        past r4 (λ s. j.apart s.place s.inside s.is_so)

    pub refused_6 : (i : ℕ) → IsFirst (length arrows) (Repeats arrows) (Some i) → RefusedBy (arrow_rows times arrows) (ArrowTwice (i + 1))
    unfolding arrow_rows from
    refused_6 i scan = stop_arrow before_6 (arrow_at (first_place _ _ i scan) (λ z. omega (arith, z))) told

    pub before_7 : IsFirst (length arrows) (Repeats arrows) None → Before 7 (arrow_rows times arrows)
    unfolding arrow_rows from
    before_7 scan = past before_6 (no_arrow (no_first_place _ _ scan) refl)

  module _ (once : Before 7 (arrow_rows times arrows)) where
    pub refused_7 : Tidy (length times) arrows → (x : Subtask) → IsFirstSubtask (length times) (λ j. LeadsTo arrows j j) (Some x)
        → RefusedBy (arrow_rows times arrows) (Cycle x.0)
    unfolding arrow_rows from
    refused_7 tidy x scan = stop_lowest once (lowest_found tidy x scan) told

    pub accepted : {row : List ℕ} → Tidy (length times) arrows → Ordered (length times) arrows row → Accepted (arrow_rows times arrows)
    unfolding arrow_rows from
    accepted tidy order = done (past once (λ h. no_cycle order tidy h.0 h.1))
