-- The rows that the arrangement by "from" leaves of an accepted graph are those of its successors. Assumes nothing.
use Rattle.std.proofs.Common.{◌≡◌, ap, ◌∙◌, List, map, ℕ, ◌+◌, ◌-◌, ◌≤◌, ◌<◌, arith, length, get_or, replicate, Result}
use Rattle.terms.specs.Graphs.{Among}
use Rattle.terms.specs.Arrangements.{has_arrow, successors_of, targets_of, out_of, row_of}
use Rattle.terms.specs.Replies.{IsArranged}
use Rattle.terms.specs.Joins.{graph_of, moved}
use Rattle.theory.specs.Joined.{IsAccepted, or_else}
use Rattle.theory.proofs.Accepted.{sound_graph}
use Rattle.theory.proofs.Ascending.{Has, passing_has, stretch_has, each_same}
use Rattle.theory.proofs.TimesOver.{targets_accepted}
use Rattle.theory.proofs.OneArranged.{begin_within}
use Rattle.arranged.proofs.OwnTables.{InTables, in_tables}
use Rattle.joins.specs.Puts.{rows_arrows, SmallRows}
use Rattle.terms.specs.declared.Refusal.{Refusal}

-- the two tables hold the rows of successors of an accepted graph
pub record Successors (times : List ℕ) (arrows : List (List ℕ)) (begins numbers : List ℕ) : Type 0 where
  pub small : SmallRows (length times) begins numbers
  pub rows : (v : ℕ) → Among 1 (length times) v → row_of begins numbers v ≡ successors_of (length times) arrows v

module _ (times : List ℕ) (arrows : List (List ℕ)) (accepted : IsAccepted (graph_of times arrows)) where
  abbrev n : ℕ
  n = length times

  module _ {begins numbers : List ℕ} (held : InTables (targets_of n arrows) n (length arrows) begins numbers) where
    rows_are : (v : ℕ) → Among 1 n v → row_of begins numbers v ≡ successors_of n arrows v
    rows_are v b = held.arranged.rows v b ∙ targets_accepted times arrows accepted v

    -- each number of a row is a subtask
    at_most : (v i : ℕ) → Among 1 n v → get_or begins (v - 1) 0 ≤ i → i < get_or begins v 0 → get_or numbers i 0 ≤ n
    unfolding row_of
    at_most v i b l h =
        let f = get_or begins (v - 1) 0 in
        let here : Has (row_of begins numbers v) (get_or numbers i 0) = stretch_has numbers f (get_or begins v 0 - f) i l (omega (arith, l, h)) in
        (passing_has (λ j. has_arrow arrows v j) n (get_or numbers i 0) (rw (rows_are v b) at here)).0.high

    small_rows : SmallRows n begins numbers
    small_rows =
        let sound = sound_graph times arrows accepted in record {
          long = omega (arith, held.long_begins, sound.count.high);
          rises = held.arranged.stand.rises;
          inside = λ v b. omega (
            arith,
            begin_within held.arranged.stand v (n - v) (omega (arith, b.high)),
            held.long_numbers,
            sound.few,
          );
          small = at_most;
        }

  pub successors : (begins numbers : List ℕ) (r : Result (Unit {0}) Refusal) → IsArranged (targets_of n arrows) times arrows (replicate 257 0) (replicate 2048 0) begins numbers r
      → Successors times arrows begins numbers
  successors begins numbers r answer =
      let held = in_tables times arrows accepted _ begins numbers r answer in
      record { small = small_rows held; rows = rows_are held }

-- so the same arrows are put
pub same_rows : {times : List ℕ} {arrows : List (List ℕ)} {begins numbers : List ℕ} (up : ℕ) (targets : List ℕ) → Successors times arrows begins numbers
    → rows_arrows up (length times) targets (row_of begins numbers) (length times)
    ≡ rows_arrows up (length times) targets (successors_of (length times) arrows) (length times)
unfolding rows_arrows
same_rows {times} up targets s =
    ap (λ (l : List (List ℕ)). map (moved up) l)
    (each_same _ _ out_of (length times) (λ v b. ap (λ (l : List ℕ). or_else (map (λ j. length times + j) targets) l) (s.rows v b)))
