-- docs/PLANNER.md, "STG text": the graph that a text means, or the number by which it is refused; then the reader's reply and its two rows.
use Rattle.std.specs.Prelude.{◌≡◌, List, [], ◌∷◌, ◌++◌, Bool, true, false, cond, ◌&&◌, ◌||◌, ℕ, zero, suc, ◌+◌, ◌-◌, eqb, leb, ltb, length, get_or, drop, replicate, Result, Ok, Err}
use Rattle.terms.specs.Rows.{Accepted, RefusedBy}
use Rattle.terms.specs.Refusals.{time_and_arrow_rows}
use Rattle.terms.specs.Texts.{all_pass, begins, is_blank, lines, proper, numbers}
use Rattle.terms.specs.declared.Refusal.{Refusal}
use Rattle.terms.specs.declared.Refusal.TheVariants.{Room, TextLength, FirstLine, TaskLine, DummyLine, TimeLarge}
use Rattle.terms.specs.declared.GraphSize.{GraphSize}

-- a refusal, or a graph: its times and its arrows, each "from, to"
pub data Reading : Type 0 where
  refuse : Refusal → Reading
  graph : List ℕ → List (List ℕ) → Reading

-- the reading where the test is passed, and else this refusal
abbrev pub need : Bool → Refusal → Reading → Reading
need true refusal reading = reading
need false refusal reading = refuse refusal

-- the line at hand and the lines after it; a line that is missing is no better than an empty one
abbrev pub line_at_hand : List (List ℕ) → List ℕ
line_at_hand [] = []
line_at_hand (line ∷ later) = line

abbrev pub lines_after : List (List ℕ) → List (List ℕ)
lines_after [] = []
lines_after (line ∷ later) = later

-- ---- one line

-- first line: n, one number 1..256
unfoldable pub is_size : List ℕ → Bool
is_size (n ∷ []) = leb 1 n && leb n 256
is_size [] = false
is_size (n ∷ m ∷ ns) = false

unfoldable pub is_first : List ℕ → Bool
is_first line = proper line && is_size (numbers line)

abbrev pub size_in : List ℕ → ℕ
size_in line = get_or (numbers line) 0 0

-- the line of task i: index, time, number of predecessors p, then exactly p predecessors
unfoldable pub is_shape : ℕ → List ℕ → Bool
is_shape i (index ∷ time ∷ p ∷ predecessors) = eqb index i && eqb (length predecessors) p
is_shape i [] = false
is_shape i (index ∷ []) = false
is_shape i (index ∷ time ∷ []) = false

unfoldable pub is_task : ℕ → List ℕ → Bool
is_task i line = proper line && is_shape i (numbers line)

abbrev pub time_in : List ℕ → ℕ
time_in line = get_or (numbers line) 1 0

abbrev pub predecessors_in : List ℕ → List ℕ
predecessors_in line = drop 3 (numbers line)

-- task 0 is the entry dummy: time 0, no predecessors
unfoldable pub is_entry_dummy : List ℕ → Bool
is_entry_dummy line = eqb (time_in line) 0 && eqb (length (predecessors_in line)) 0

-- task i = n + 1 is the exit dummy: time 0, predecessors among 0..n
unfoldable pub is_exit_dummy : ℕ → List ℕ → Bool
is_exit_dummy i line = eqb (time_in line) 0 && all_pass (λ p. ltb p i) (predecessors_in line)

-- after it: nothing but spaces and tabs, or a first byte #
unfoldable pub may_follow : List ℕ → Bool
may_follow line = all_pass is_blank line || begins (λ b. eqb b 35) line

-- ---- the graph

-- predecessor 0 gives no arrow; other predecessors give arrows in file order
unfoldable pub arrows_into : ℕ → List ℕ → List (List ℕ)
arrows_into i [] = []
arrows_into i (p ∷ predecessors) = cond (eqb p 0) (arrows_into i predecessors) ((p ∷ i ∷ []) ∷ arrows_into i predecessors)

-- a subtask's time and its arrows, before those of the later ones
unfoldable pub with_task : ℕ → List (List ℕ) → Reading → Reading
with_task time into (refuse refusal) = refuse refusal
with_task time into (graph times arrows) = graph (time ∷ times) (into ++ arrows)

-- ---- all lines in order: the earliest line decides, on one line the lowest number

unfoldable pub trailer : List (List ℕ) → Reading
trailer [] = graph [] []
trailer (line ∷ later) = need (may_follow line) TaskLine (trailer later)

unfoldable pub exit_line : ℕ → List (List ℕ) → Reading
exit_line i ls = need (is_task i (line_at_hand ls)) TaskLine (need (is_exit_dummy i (line_at_hand ls)) DummyLine (trailer (lines_after ls)))

-- the lines of so many tasks from i on, then the exit dummy's
unfoldable pub task_lines : ℕ → ℕ → List (List ℕ) → Reading
task_lines i zero ls = exit_line i ls
task_lines i (suc left) ls =
    need (is_task i (line_at_hand ls)) TaskLine
    (need (leb (time_in (line_at_hand ls)) 65535) TimeLarge
    (with_task (time_in (line_at_hand ls)) (arrows_into i (predecessors_in (line_at_hand ls))) (task_lines (i + 1) left (lines_after ls))))

unfoldable pub entry_line : ℕ → List (List ℕ) → Reading
entry_line n ls = need (is_task 0 (line_at_hand ls)) TaskLine (need (is_entry_dummy (line_at_hand ls)) DummyLine (task_lines 1 n (lines_after ls)))

unfoldable pub read_lines : List (List ℕ) → Reading
read_lines ls = need (is_first (line_at_hand ls)) FirstLine (entry_line (size_in (line_at_hand ls)) (lines_after ls))

-- the reader asks 11 first, then 20, then goes line by line; it is lent rows of so many times and arrows
unfoldable pub read_text : ℕ → ℕ → List ℕ → Reading
read_text times_room arrows_room text =
    need (leb 256 times_room && leb 2048 arrows_room) Room (need (leb (length text) 60000) TextLength (read_lines (lines text)))

-- ---- the reply and the two rows

-- a row of so many places that begins with these values, and is 0 past the last of them
abbrev pub padded : {A : Type 0} → ℕ → A → List A → List A
padded room blank values = values ++ replicate (room - length values) blank

abbrev pub no_arrow : List ℕ
no_arrow = 0 ∷ 0 ∷ []

-- the two rows hold these times and arrows, and places past the last time and last arrow are 0
pub record RowsHold (times_room arrows_room : ℕ) (times : List ℕ) (arrows : List (List ℕ)) (times_row : List ℕ) (arrows_row : List (List ℕ)) : Type 0 where
  pub times_held : times_row ≡ padded times_room 0 times
  pub arrows_held : arrows_row ≡ padded arrows_room no_arrow arrows

-- with a refusal both rows are all zeros; otherwise they hold the graph, and the reply has its counts. 2 to 7 are asked of the graph that was read
unfoldable pub IsReplyTo : Reading → ℕ → ℕ → List ℕ → List (List ℕ) → Result GraphSize Refusal → Type 0
IsReplyTo (refuse first) times_room arrows_room times_row arrows_row (Err refusal) =
    (refusal ≡ first) × RowsHold times_room arrows_room [] [] times_row arrows_row
IsReplyTo (refuse first) times_room arrows_room times_row arrows_row (Ok size) = ⊥
IsReplyTo (graph times arrows) times_room arrows_room times_row arrows_row (Err refusal) =
    RefusedBy (time_and_arrow_rows times arrows) refusal × RowsHold times_room arrows_room [] [] times_row arrows_row
IsReplyTo (graph times arrows) times_room arrows_room times_row arrows_row (Ok size) =
    Accepted (time_and_arrow_rows times arrows)
    × (size.subtasks ≡ length times)
    × (size.arrows ≡ length arrows)
    × RowsHold times_room arrows_room times arrows times_row arrows_row

-- the reader's whole statement, over the lengths of its rows before, and what they hold after
abbrev pub IsRead : ℕ → ℕ → List ℕ → List ℕ → List (List ℕ) → Result GraphSize Refusal → Type 0
IsRead times_room arrows_room text times_row arrows_row reply = IsReplyTo (read_text times_room arrows_room text) times_room arrows_room times_row arrows_row reply
