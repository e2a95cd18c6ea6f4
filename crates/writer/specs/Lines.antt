-- The text of a graph as it is put together: from rows of predecessors and the row of those without successors.
use Rattle.std.specs.Prelude.{◌≡◌, List, [], ◌∷◌, ◌++◌, ℕ, ◌-◌, ◌≤◌, ◌<◌, length, get_or}
use Rattle.terms.specs.Graphs.{IsSubtask}
use Rattle.terms.specs.Arrangements.{predecessors_of, row_of, Arranged}
use Rattle.terms.specs.Writings.{line, text_of, subtask_lines, exit_numbers}
use Rattle.theory.specs.Sound.{SoundGraph}

-- a task's line with its LF: number, time, how many numbers its row has, and these
unfoldable pub task_line : ℕ → ℕ → List ℕ → List ℕ
task_line task time row = line (task ∷ time ∷ length row ∷ row) ++ 10 ∷ []

-- the lines of all subtasks
unfoldable pub subtasks_text : List ℕ → List ℕ → List ℕ → List ℕ
subtasks_text times begins numbers = text_of (subtask_lines (row_of begins numbers) 1 times)

-- the whole text
unfoldable pub rows_text : List ℕ → List ℕ → List ℕ → List ℕ → List ℕ
rows_text times begins numbers lasts =
    text_of ((length times ∷ []) ∷ (0 ∷ 0 ∷ 0 ∷ []) ∷ subtask_lines (row_of begins numbers) 1 times ++ exit_numbers (length times) lasts ∷ [])

-- the row of subtask j stands in the two tables
pub record HasRow (begins numbers : List ℕ) (j : ℕ) : Type 0 where
  pub first : 1 ≤ j
  pub long : j < length begins
  pub rises : get_or begins (j - 1) 0 ≤ get_or begins j 0
  pub inside : get_or begins j 0 ≤ length numbers

-- the rows of all subtasks do
pub record Rows (times begins numbers : List ℕ) : Type 0 where
  pub count : length times ≤ 256
  pub few : length numbers ≤ 2048
  pub row : (j : ℕ) → IsSubtask times j → HasRow begins numbers j

-- the two tables hold the rows of predecessors of an accepted graph
pub record SoundRows (times : List ℕ) (arrows : List (List ℕ)) (begins numbers : List ℕ) : Type 0 where
  pub sound : SoundGraph times arrows
  pub long_begins : length begins ≡ 257
  pub long_numbers : length numbers ≡ 2048
  pub arranged : Arranged (predecessors_of (length times) arrows) (length times) (length arrows) begins numbers
