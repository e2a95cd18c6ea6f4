-- What the writer wrote, over its public statement: the text of an accepted graph, at most 12,422 bytes, which the reader accepts with the same times
-- and the same arrows; two texts are the same exactly when the times and the arrows are. Assumes nothing.
use Rattle.std.proofs.Common.{◌≡◌, sym, ap₂, ◌∙◌, List, ℕ, ◌≤◌, arith, length, take, drop}
use Rattle.std.proofs.Math.Seq.{take-append_seam}
use Rattle.terms.specs.Rows.{Accepted}
use Rattle.terms.specs.Graphs.{In16Bits, from_of, to_of}
use Rattle.terms.specs.Refusals.{graph_rows, write_rows}
use Rattle.terms.specs.Readings.{IsRead}
use Rattle.terms.specs.Arrangements.{sorted_by_to, SameArrows, Sorts}
use Rattle.terms.specs.Writings.{stg_text}
use Rattle.terms.specs.Replies.{IsWritten}
use Rattle.theory.proofs.Answers.{accepted_both}
use Rattle.theory.proofs.SortedArrows.{sorts_by_to, accepted_by_to}
use Rattle.theory.proofs.LongestText.{text_most}
use Rattle.theory.proofs.TextBack.{ReadsAs, text_read, same_text, text_same}
use Rattle.std.specs.Prelude.{Result, Ok}
use Rattle.terms.specs.declared.GraphSize.{GraphSize}
use Rattle.terms.specs.declared.Refusal.{Refusal}

module _ (times : List ℕ) (arrows : List (List ℕ)) (before after : List ℕ) (k : ℕ) (wrote : IsWritten times arrows before after (Ok k)) where
  -- only an accepted graph is written
  pub written_accepted : Accepted (graph_rows times arrows)
  unfolding IsWritten write_rows
  written_accepted = (accepted_both (graph_rows times arrows) _ wrote.0).0

  -- the bytes written are the graph's text
  pub written_text : take k after ≡ stg_text times arrows
  unfolding IsWritten
  written_text =
      ap₂ (λ (i : ℕ) (l : List ℕ). take i l) wrote.1 wrote.2
      ∙ take-append_seam (stg_text times arrows) (drop k before)

  module _ (small : In16Bits times) where
    pub written_most : k ≤ 12422
    unfolding IsWritten
    written_most = omega (arith, wrote.1, text_most times arrows written_accepted small)

    -- what the reader over rows with room then holds: the same times, and the same arrows, sorted by "to" and then "from", accepted again
    pub written_read : (times_room arrows_room : ℕ) (times_row : List ℕ) (arrows_row : List (List ℕ)) (reply : Result GraphSize Refusal) → 256 ≤ times_room → 2048 ≤ arrows_room
        → IsRead times_room arrows_room (take k after) times_row arrows_row reply
        → ReadsAs times_room arrows_room times (sorted_by_to (length times) arrows) times_row arrows_row reply
        × Sorts to_of from_of arrows (sorted_by_to (length times) arrows)
        × Accepted (graph_rows times (sorted_by_to (length times) arrows))
    written_read times_room arrows_room times_row arrows_row reply t a r = (
      text_read times arrows written_accepted small times_room arrows_room t a times_row arrows_row reply (rw written_text at r),
      sorts_by_to times arrows written_accepted,
      accepted_by_to times arrows written_accepted,
    )

-- two graphs, each written into a room of its own
module _ (times times' : List ℕ) (arrows arrows' : List (List ℕ)) (before after before' after' : List ℕ) (k k' : ℕ)
    (wrote : IsWritten times arrows before after (Ok k)) (wrote' : IsWritten times' arrows' before' after' (Ok k')) where
  pub same_written : times ≡ times' → SameArrows arrows arrows' → take k after ≡ take k' after'
  same_written e same =
      written_text times arrows before after k wrote
      ∙ same_text times times' arrows arrows' e same
      ∙ sym (written_text times' arrows' before' after' k' wrote')

  pub written_same : In16Bits times → In16Bits times' → take k after ≡ take k' after' → (times ≡ times') × SameArrows arrows arrows'
  written_same small small' e = text_same times times' arrows arrows'
      (written_accepted times arrows before after k wrote) (written_accepted times' arrows' before' after' k' wrote') small small'
      (sym (written_text times arrows before after k wrote) ∙ e ∙ written_text times' arrows' before' after' k' wrote')
