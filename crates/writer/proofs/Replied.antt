-- From the bytes put to the writer's reply: over the rows of an accepted graph they are the graph's text. Assumes nothing.
use Rattle.std.proofs.Common.{◌≡◌, refl, ap, ap₂, ◌∙◌, List, [], ◌∷◌, ◌++◌, ℕ, ◌+◌, ◌-◌, ◌≤◌, ◌<◌, arith, length, take, drop, replicate, length-take, Result}
use Rattle.std.proofs.Common.{Ok, Err}
use Rattle.std.proofs.lemmas.List.{length-replicate}
use Rattle.terms.specs.Rows.{Accepted, RefusedBy, row}
use Rattle.terms.specs.Arrangements.{predecessors_of, sources_of, lasts_of, row_of}
use Rattle.terms.specs.Writings.{text_of, with_count, subtask_lines, exit_numbers, stg_lines, stg_text}
use Rattle.terms.specs.Refusals.{graph_rows, write_rows}
use Rattle.terms.specs.Replies.{IsArranged, IsWritten}
use Rattle.terms.specs.declared.Refusal.{Refusal}
use Rattle.theory.proofs.Accepted.{sound_graph, accepted_graph, accepted_arrange}
use Rattle.theory.proofs.Answers.{not_both, refused_first, Passed, begin, past, past_all, stop, done}
use Rattle.terms.proofs.Decisions.{told}
use Rattle.theory.proofs.TimesOver.{sources_accepted}
use Rattle.theory.proofs.OneArranged.{begin_within}
use Rattle.arranged.proofs.OwnTables.{in_tables}
use Rattle.room.specs.Puts.{Stands}
use Rattle.room.proofs.Puts.{stands_left}
use Rattle.writer.specs.Lines.{rows_text, Rows, SoundRows}
use Rattle.writer.specs.Fronts.{Writes}
use Rattle.terms.specs.declared.Refusal.TheVariants.{Room}

-- the front of a row is no longer than it should be
pub front_short : (k : ℕ) (row : List ℕ) → length (take k row) ≤ k
front_short k row = omega (arith, length-take k row)

-- a graph that is not accepted
pub refused_graph : (times : List ℕ) (arrows : List (List ℕ)) (room : List ℕ) (refusal : Refusal) → RefusedBy (graph_rows times arrows) refusal
    → IsWritten times arrows room room (Err refusal)
unfolding IsWritten write_rows
refused_graph times arrows room refusal refused = (refused_first (graph_rows times arrows) _ refusal refused, refl)

-- ---- written or refused

pub writes_none : (bytes before : List ℕ) (size : ℕ) → size ≡ length bytes → length before < size → Writes bytes before before (Err Room)
unfolding Writes
writes_none bytes before size e l = (omega (arith, e, l), refl, refl)

pub writes_all : (bytes : List ℕ) {before after : List ℕ} {past : ℕ} (size : ℕ) → size ≡ length bytes → size ≤ length before → Stands before 0 bytes after past
    → Writes bytes before after (Ok size)
unfolding Writes
writes_all bytes {before} {after} {past} size e l s =
    let behind : past ≡ size = omega (arith, e, s.next) in
    (omega (arith, e, l), e, stands_left (omega (arith, e, l)) s ∙ ap (λ (k : ℕ). bytes ++ drop k before) behind)

-- ---- the rows of an accepted graph

module _ {times : List ℕ} {arrows : List (List ℕ)} {begins numbers : List ℕ} (rows : SoundRows times arrows begins numbers) where
  abbrev n : ℕ
  n = length times

  pub rows_stand : Rows times begins numbers
  rows_stand = record {
    count = rows.sound.count.high;
    few = omega (arith, rows.long_numbers);
    row = λ j b. record {
      first = b.low;
      long = omega (arith, rows.long_begins, b.high, rows.sound.count.high);
      rises = rows.arranged.stand.rises j b;
      inside = omega (arith, begin_within rows.arranged.stand j (n - j) (omega (arith, b.high)), rows.long_numbers, rows.sound.few);
    };
  }

  lines_same : (j : ℕ) (ts : List ℕ) → 1 ≤ j → j + length ts ≤ n + 1 → subtask_lines (row_of begins numbers) j ts ≡ subtask_lines (predecessors_of n arrows) j ts
  unfolding subtask_lines
  lines_same j [] l m = refl
  lines_same j (t ∷ ts) l m =
      ap₂ (λ (ps : List ℕ) (ls : List (List ℕ)). (j ∷ t ∷ with_count ps) ∷ ls) (rows.arranged.rows j (record { low = l; high = omega (arith, m) }))
      (lines_same (j + 1) ts (omega (arith, l)) (omega (arith, m)))

  text_is : (lasts : List ℕ) → lasts ≡ lasts_of n arrows → rows_text times begins numbers lasts ≡ stg_text times arrows
  unfolding rows_text stg_text stg_lines
  text_is lasts e =
      ap₂ (λ (ls : List (List ℕ)) (ends : List ℕ). text_of ((n ∷ []) ∷ (0 ∷ 0 ∷ 0 ∷ []) ∷ ls ++ exit_numbers n ends ∷ []))
      (lines_same 1 times (omega arith) (omega arith))
      e

  -- 1 to 7 do not hold; 11 is asked next
  asked : (room : ℕ) → Passed (write_rows times arrows room) (row 11 (room < length (stg_text times arrows)) ∷ [])
  unfolding write_rows
  asked room = past_all (graph_rows times arrows) (begin (write_rows times arrows room)) (accepted_graph times arrows rows.sound)

  pub written_rows : (lasts before after : List ℕ) (r : Result ℕ Refusal) → lasts ≡ lasts_of n arrows → Writes (rows_text times begins numbers lasts) before after r
      → IsWritten times arrows before after r
  unfolding Writes IsWritten
  written_rows lasts before after (Ok k) e (l, s, h) =
      let same = text_is lasts e in (
        done (past (asked (length before)) (λ short. omega (arith, short, l, ap length same))),
        s ∙ ap length same,
        h ∙ ap (λ (t : List ℕ). t ++ drop k before) same,
      )
  written_rows lasts before after (Err refusal) e (l, s, h) =
      rw s (stop (asked (length before)) (omega (arith, l, ap length (text_is lasts e))) told, h)

-- ---- the arrangement over the writer's own tables

-- it refuses none
pub none_refused : (times : List ℕ) (arrows : List (List ℕ)) → Accepted (graph_rows times arrows) → (wanted : ℕ → List ℕ) (begins numbers : List ℕ)
    (refusal : Refusal) → IsArranged wanted times arrows (replicate 257 0) (replicate 2048 0) begins numbers (Err refusal) → ⊥
unfolding IsArranged
none_refused times arrows accepted wanted begins numbers refusal answer =
    let sound = sound_graph times arrows accepted in
    let first = length-replicate {A = ℕ} 257 0 in
    let rest = length-replicate {A = ℕ} 2048 0 in
    not_both _ refusal (accepted_arrange times arrows _ _ sound (omega (arith, first, sound.count.high)) (omega (arith, rest, sound.few))) answer.0

-- it leaves the rows of predecessors
pub sound_arranged : (times : List ℕ) (arrows : List (List ℕ)) → Accepted (graph_rows times arrows) → (begins numbers : List ℕ) (r : Result (Unit {0}) Refusal)
    → IsArranged (sources_of (length times) arrows) times arrows (replicate 257 0) (replicate 2048 0) begins numbers r → SoundRows times arrows begins numbers
sound_arranged times arrows accepted begins numbers r answer =
    let held = in_tables times arrows accepted _ begins numbers r answer in record {
      sound = sound_graph times arrows accepted;
      long_begins = held.long_begins;
      long_numbers = held.long_numbers;
      arranged = record {
        stand = held.arranged.stand;
        rows = λ j b. held.arranged.rows j b ∙ sources_accepted times arrows accepted j;
      };
    }
