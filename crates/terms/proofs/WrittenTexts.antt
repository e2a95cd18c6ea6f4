-- Graphs written as texts and their arrows sorted, by computation from the definitions alone. Assumes nothing.
use Rattle.std.proofs.Common.{◌≡◌, refl, [], ◌∷◌, ◌++◌}
use Rattle.terms.specs.Arrangements.{has_arrow, passing, lasts_of, for_each, sorted_by_to, sorted_by_from, stretch, row_of}
use Rattle.terms.specs.Writings.{decimal_in, decimal, further, line, text_of, with_count, subtask_lines, exit_numbers, stg_lines, stg_text}
use Rattle.terms.proofs.Examples.{times_g, arrows_g}

pub record WrittenTexts : Type 0 where
  -- "2", "0 0 0", "1 5 1 0", "2 5 1 0", "3 0 2 1 2": the text of the bench program
  pub bench : stg_text (5 ∷ 5 ∷ []) []
      ≡ (50 ∷ 10 ∷ 48 ∷ 32 ∷ 48 ∷ 32 ∷ 48 ∷ 10 ∷ [])
      ++ (49 ∷ 32 ∷ 53 ∷ 32 ∷ 49 ∷ 32 ∷ 48 ∷ 10 ∷ [])
      ++ (50 ∷ 32 ∷ 53 ∷ 32 ∷ 49 ∷ 32 ∷ 48 ∷ 10 ∷ [])
      ++ (51 ∷ 32 ∷ 48 ∷ 32 ∷ 50 ∷ 32 ∷ 49 ∷ 32 ∷ 50 ∷ 10 ∷ [])
  -- 2→1 and 65,535 microseconds: "2", "0 0 0", "1 65535 1 2", "2 10 1 0", "3 0 1 1"
  pub turned : stg_text (65535 ∷ 10 ∷ []) ((2 ∷ 1 ∷ []) ∷ [])
      ≡ (50 ∷ 10 ∷ 48 ∷ 32 ∷ 48 ∷ 32 ∷ 48 ∷ 10 ∷ [])
      ++ (49 ∷ 32 ∷ 54 ∷ 53 ∷ 53 ∷ 51 ∷ 53 ∷ 32 ∷ 49 ∷ 32 ∷ 50 ∷ 10 ∷ [])
      ++ (50 ∷ 32 ∷ 49 ∷ 48 ∷ 32 ∷ 49 ∷ 32 ∷ 48 ∷ 10 ∷ [])
      ++ (51 ∷ 32 ∷ 48 ∷ 32 ∷ 49 ∷ 32 ∷ 49 ∷ 10 ∷ [])
  -- the lines of graph G
  pub lines_g : stg_lines times_g arrows_g
      ≡ (9 ∷ [])
      ∷ (0 ∷ 0 ∷ 0 ∷ [])
      ∷ (1 ∷ 3 ∷ 1 ∷ 0 ∷ [])
      ∷ (2 ∷ 2 ∷ 1 ∷ 0 ∷ [])
      ∷ (3 ∷ 2 ∷ 1 ∷ 0 ∷ [])
      ∷ (4 ∷ 2 ∷ 1 ∷ 0 ∷ [])
      ∷ (5 ∷ 4 ∷ 1 ∷ 4 ∷ [])
      ∷ (6 ∷ 4 ∷ 1 ∷ 4 ∷ [])
      ∷ (7 ∷ 4 ∷ 1 ∷ 4 ∷ [])
      ∷ (8 ∷ 4 ∷ 1 ∷ 4 ∷ [])
      ∷ (9 ∷ 9 ∷ 1 ∷ 1 ∷ [])
      ∷ (10 ∷ 0 ∷ 7 ∷ 2 ∷ 3 ∷ 5 ∷ 6 ∷ 7 ∷ 8 ∷ 9 ∷ [])
      ∷ []
  -- 3→2, 1→3, 1→2, sorted by either end and then by the other
  pub by_to : sorted_by_to 3 ((3 ∷ 2 ∷ []) ∷ (1 ∷ 3 ∷ []) ∷ (1 ∷ 2 ∷ []) ∷ []) ≡ (1 ∷ 2 ∷ []) ∷ (3 ∷ 2 ∷ []) ∷ (1 ∷ 3 ∷ []) ∷ []
  pub by_from : sorted_by_from 3 ((3 ∷ 2 ∷ []) ∷ (1 ∷ 3 ∷ []) ∷ (1 ∷ 2 ∷ []) ∷ []) ≡ (1 ∷ 2 ∷ []) ∷ (1 ∷ 3 ∷ []) ∷ (3 ∷ 2 ∷ []) ∷ []
  -- the second row of 7, 8, 9 with the begins 0, 1, 3
  pub second_row : row_of (0 ∷ 1 ∷ 3 ∷ []) (7 ∷ 8 ∷ 9 ∷ []) 2 ≡ 8 ∷ 9 ∷ []

pub written_texts : WrittenTexts
unfolding decimal_in decimal further line text_of with_count subtask_lines lasts_of exit_numbers stg_lines stg_text has_arrow passing for_each sorted_by_to sorted_by_from stretch row_of
written_texts = record { bench = refl; turned = refl; lines_g = refl; by_to = refl; by_from = refl; second_row = refl }
