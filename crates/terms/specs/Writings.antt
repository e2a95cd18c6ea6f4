-- docs/PLANNER.md, "STG text", "Writing": the text of a graph, in one form: single spaces, LF after every line, no leading zeros, no comments.
use Rattle.std.specs.Prelude.{cond, List, [], ◌∷◌, ◌++◌, ℕ, zero, suc, ◌+◌, ◌/◌, ◌%◌, ltb, length}
use Rattle.terms.specs.Arrangements.{predecessors_of, lasts_of}

-- ---- numbers and lines

-- the decimal digits of a number n, without leading zeros; k at least n
unfoldable pub decimal_in : ℕ → ℕ → List ℕ
decimal_in zero n = (48 + n) ∷ []
decimal_in (suc k) n = cond (ltb n 10) ((48 + n) ∷ []) (decimal_in k (n / 10) ++ ((48 + n % 10) ∷ []))

unfoldable pub decimal : ℕ → List ℕ
decimal n = decimal_in n n

-- further numbers of a line: a single space before each
unfoldable pub further : List ℕ → List ℕ
further [] = []
further (x ∷ xs) = 32 ∷ decimal x ++ further xs

-- a line of numbers, without its end
unfoldable pub line : List ℕ → List ℕ
line [] = []
line (x ∷ xs) = decimal x ++ further xs

-- LF after every line
unfoldable pub text_of : List (List ℕ) → List ℕ
text_of [] = []
text_of (l ∷ ls) = line l ++ 10 ∷ text_of ls

-- ---- the lines of a graph, as numbers

-- how many predecessors, and these; predecessor 0 exactly where there is no other
unfoldable pub with_count : List ℕ → List ℕ
with_count [] = 1 ∷ 0 ∷ []
with_count (p ∷ ps) = length (p ∷ ps) ∷ p ∷ ps

-- the lines of the subtasks from j on: number, time, predecessors
unfoldable pub subtask_lines : (ℕ → List ℕ) → ℕ → List ℕ → List (List ℕ)
subtask_lines predecessors j [] = []
subtask_lines predecessors j (time ∷ times) = (j ∷ time ∷ with_count (predecessors j)) ∷ subtask_lines predecessors (j + 1) times

-- the exit dummy's line: number, time 0, how many subtasks have no successor, and these
unfoldable pub exit_numbers : ℕ → List ℕ → List ℕ
exit_numbers n lasts = (n + 1) ∷ 0 ∷ length lasts ∷ lasts

-- n; the entry dummy's line; the subtasks' lines; the exit dummy's line
unfoldable pub stg_lines : List ℕ → List (List ℕ) → List (List ℕ)
stg_lines times arrows =
    (length times ∷ [])
    ∷ (0 ∷ 0 ∷ 0 ∷ [])
    ∷ subtask_lines (predecessors_of (length times) arrows) 1 times ++ exit_numbers (length times) (lasts_of (length times) arrows) ∷ []

unfoldable pub stg_text : List ℕ → List (List ℕ) → List ℕ
stg_text times arrows = text_of (stg_lines times arrows)
