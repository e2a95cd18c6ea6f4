-- The text of an accepted graph of 16-bit times, read again: the same times, and the arrows sorted by "to" and then "from". Two such graphs have the
-- same text exactly when their times and their arrows are the same. Assumes nothing.
use Rattle.std.proofs.Common.{◌≡◌, refl, sym, ap, ap₂, ◌∙◌, Bool, List, [], ◌∷◌, ◌++◌, ℕ, ◌+◌, ◌≤◌, arith, length, le-leb}
use Rattle.terms.specs.Rows.{Accepted}
use Rattle.terms.specs.Graphs.{In16Bits}
use Rattle.terms.specs.Refusals.{graph_rows, time_and_arrow_rows}
use Rattle.terms.specs.Texts.{lines}
use Rattle.terms.specs.Readings.{Reading, refuse, graph, read_lines, read_text, RowsHold, IsReplyTo, IsRead}
use Rattle.terms.specs.Arrangements.{has_arrow, passing, predecessors_of, successors_of, is_none, lasts_of, sorted_by_to, SameArrows}
use Rattle.terms.specs.Writings.{text_of, with_count, subtask_lines, exit_numbers, stg_lines, stg_text}
use Rattle.theory.specs.Sound.{SoundGraph}
use Rattle.theory.proofs.Answers.{not_both}
use Rattle.theory.proofs.Accepted.{sound_graph, read_accepted}
use Rattle.theory.proofs.Ascending.{passing_has, passing_same}
use Rattle.theory.proofs.SortedArrows.{has_same, sorts_by_to, accepted_by_to}
use Rattle.theory.proofs.LinesBack.{lines_text}
use Rattle.theory.proofs.GraphBack.{rows_from, each_rows, Fits, read_graph}
use Rattle.theory.proofs.TextLengths.{passing_few, times_small}
use Rattle.theory.proofs.LongestText.{text_most}
use Rattle.std.specs.Prelude.{Result, Ok, Err}
use Rattle.terms.specs.declared.GraphSize.{GraphSize}
use Rattle.terms.specs.declared.Refusal.{Refusal}

-- ---- read again

fits_passing : (test : ℕ → Bool) (n : ℕ) → Fits n (passing test n)
fits_passing test n = record { short = passing_few test n; among = λ p h. (passing_has test n p h).0 }

-- the reader accepts this graph: it replies the counts, and its rows hold the graph
pub record ReadsAs (times_room arrows_room : ℕ) (times : List ℕ) (arrows : List (List ℕ)) (times_row : List ℕ) (arrows_row : List (List ℕ))
    (reply : Result GraphSize Refusal) : Type 0 where
  pub read : reply ≡ Ok (record { subtasks = length times; arrows = length arrows })
  pub held : RowsHold times_room arrows_room times arrows times_row arrows_row

reads_as : (times_room arrows_room : ℕ) (times : List ℕ) (arrows : List (List ℕ)) (times_row : List ℕ) (arrows_row : List (List ℕ)) (reply : Result GraphSize Refusal)
    → Accepted (time_and_arrow_rows times arrows) → IsReplyTo (graph times arrows) times_room arrows_room times_row arrows_row reply
    → ReadsAs times_room arrows_room times arrows times_row arrows_row reply
unfolding IsReplyTo
reads_as times_room arrows_room times arrows times_row arrows_row (Ok size) a (b, n, m, h) =
    record { read = ap₂ (λ (c d : ℕ). Ok (record { subtasks = c; arrows = d })) n m; held = h }
reads_as times_room arrows_room times arrows times_row arrows_row (Err refusal) a (b, h) = not_both (time_and_arrow_rows times arrows) refusal a b

module _ (times : List ℕ) (arrows : List (List ℕ)) (accepted : Accepted (graph_rows times arrows)) (small : In16Bits times) where
  sound : SoundGraph times arrows
  sound = sound_graph times arrows accepted

  rows_sorted : rows_from (predecessors_of (length times) arrows) 1 times ≡ sorted_by_to (length times) arrows
  unfolding sorted_by_to
  rows_sorted = each_rows (predecessors_of (length times) arrows) times

  lines_back : read_lines (lines (stg_text times arrows)) ≡ graph times (sorted_by_to (length times) arrows)
  unfolding stg_text stg_lines lasts_of
  lines_back =
      let n = length times in
      ap read_lines (lines_text (stg_lines times arrows))
      ∙ read_graph n sound.count.high (predecessors_of n arrows) (λ j. fits_passing (λ i. has_arrow arrows i j) n) (lasts_of n arrows)
      (fits_passing (λ i. is_none (successors_of n arrows i)) n) times sound.count.low refl (times_small times small)
      ∙ ap (λ (l : List (List ℕ)). graph times l) rows_sorted

  -- by the reader over rows with room
  module _ (times_room arrows_room : ℕ) (times-fit : 256 ≤ times_room) (arrows-fit : 2048 ≤ arrows_room) where
    pub text_back : read_text times_room arrows_room (stg_text times arrows) ≡ graph times (sorted_by_to (length times) arrows)
    unfolding read_text
    text_back = rw (
      le-leb 256 times_room times-fit,
      le-leb 2048 arrows_room arrows-fit,
      le-leb (length (stg_text times arrows)) 60000 (omega (arith, text_most times arrows accepted small)),
    ) lines_back

    pub text_read : (times_row : List ℕ) (arrows_row : List (List ℕ)) (reply : Result GraphSize Refusal)
        → IsRead times_room arrows_room (stg_text times arrows) times_row arrows_row reply
        → ReadsAs times_room arrows_room times (sorted_by_to (length times) arrows) times_row arrows_row reply
    text_read times_row arrows_row reply r = reads_as times_room arrows_room times (sorted_by_to (length times) arrows) times_row arrows_row reply
        (read_accepted times (sorted_by_to (length times) arrows) (accepted_by_to times arrows accepted)) (rw text_back at r)

-- ---- the same text

lines_same : (row row' : ℕ → List ℕ) (j : ℕ) (times : List ℕ) → ((j : ℕ) → row j ≡ row' j) → subtask_lines row j times ≡ subtask_lines row' j times
unfolding subtask_lines
lines_same row row' j [] e = refl
lines_same row row' j (t ∷ ts) e = ap₂ (λ (ps : List ℕ) (ls : List (List ℕ)). (j ∷ t ∷ with_count ps) ∷ ls) (e j) (lines_same row row' (j + 1) ts e)

arrows_text : (times : List ℕ) (arrows arrows' : List (List ℕ)) → SameArrows arrows arrows' → stg_text times arrows ≡ stg_text times arrows'
unfolding stg_text stg_lines lasts_of
arrows_text times arrows arrows' same =
    ap₂ (λ (ls : List (List ℕ)) (lasts : List ℕ). text_of ((length times ∷ []) ∷ (0 ∷ 0 ∷ 0 ∷ []) ∷ ls ++ exit_numbers (length times) lasts ∷ []))
    (lines_same (predecessors_of (length times) arrows) (predecessors_of (length times) arrows') 1 times
    (λ j. passing_same _ _ (length times) (λ i b. has_same same i j)))
    (passing_same _ _ (length times) (λ i b. ap is_none (passing_same _ _ (length times) (λ j c. has_same same i j))))

-- the same times and the same arrows give the same text, whether accepted or not
pub same_text : (times times' : List ℕ) (arrows arrows' : List (List ℕ)) → times ≡ times' → SameArrows arrows arrows'
    → stg_text times arrows ≡ stg_text times' arrows'
same_text times times' arrows arrows' e same = arrows_text times arrows arrows' same ∙ ap (λ (ts : List ℕ). stg_text ts arrows') e

abbrev times_in : Reading → List ℕ
times_in (refuse k) = []
times_in (graph times arrows) = times

abbrev arrows_in : Reading → List (List ℕ)
arrows_in (refuse k) = []
arrows_in (graph times arrows) = arrows

-- and the same text tells them
pub text_same : (times times' : List ℕ) (arrows arrows' : List (List ℕ)) → Accepted (graph_rows times arrows) → Accepted (graph_rows times' arrows')
    → In16Bits times → In16Bits times' → stg_text times arrows ≡ stg_text times' arrows' → (times ≡ times') × SameArrows arrows arrows'
text_same times times' arrows arrows' accepted accepted' small small' e =
    let read : graph times (sorted_by_to (length times) arrows) ≡ graph times' (sorted_by_to (length times') arrows') =
    sym (text_back times arrows accepted small 256 2048 (omega arith) (omega arith))
    ∙ ap (λ (text : List ℕ). read_text 256 2048 text) e
    ∙ text_back times' arrows' accepted' small' 256 2048 (omega arith) (omega arith) in
    let sorted = (sorts_by_to times arrows accepted).same in
    let sorted' : SameArrows arrows' (sorted_by_to (length times) arrows) = rw (ap arrows_in read) (sorts_by_to times' arrows' accepted').same in (
      ap times_in read,
      record { there = λ i j w. sorted'.back i j (sorted.there i j w); back = λ i j w. sorted.back i j (sorted'.there i j w) },
    )
