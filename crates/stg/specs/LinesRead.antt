-- What the reader's functions for one line and for several answer, of a text from a place on.
use Rattle.std.specs.Prelude.{◌≡◌, List, [], ◌∷◌, map, Bool, true, false, cond, ℕ, suc, ◌+◌, ◌≤◌, ◌<◌, leb, ltb, length, get_or, drop, Option, Some, None, Result, Ok, Err}
use Rattle.std.proofs.lemmas.List.Edits.{sets}
use Rattle.terms.specs.Graphs.{Among}
use Rattle.terms.specs.Texts.{all_pass, lines, proper, numbers}
use Rattle.terms.specs.Readings.{Reading, refuse, graph, need, read_lines, entry_line, task_lines, exit_line, is_task, is_exit_dummy, time_in, predecessors_in}
use Rattle.terms.specs.Readings.{may_follow, arrows_into}
use Rattle.terms.specs.declared.Refusal.{Refusal}
use Rattle.terms.specs.declared.Refusal.TheVariants.{TaskLine, DummyLine}
use Rattle.text.specs.Rest.{line, later}
use Rattle.stg.specs.declared.predecessors.Rest.{Rest}
use Rattle.stg.specs.declared.tasks.Task.{Task}
use Rattle.stg.specs.declared.outer_lines.Opening.{Opening}
use Rattle.stg.specs.declared.predecessors.Arrows.{Arrows}
use Rattle.terms.specs.declared.GraphSize.{GraphSize}

-- ---- one line

-- an arrow as a row holds it
abbrev pub clipped : ℕ → ℕ
clipped p = cond (leb p 65535) p 65535

abbrev pub hold : List ℕ → List ℕ
hold arrow = clipped (get_or arrow 0 0) ∷ get_or arrow 1 0 ∷ []

abbrev pub held : ℕ → List ℕ → List (List ℕ)
held i ps = map hold (arrows_into i ps)

-- the arrows of some predecessors of task i, put behind the first a of a row, which makes b
pub record Added (i : ℕ) (ps : List ℕ) (a : ℕ) (row : List (List ℕ)) (b : ℕ) (row' : List (List ℕ)) : Type 0 where
  pub counts : b ≡ a + length (arrows_into i ps)
  pub holds : row' ≡ sets row a (held i ps)

-- the same in the lent row
pub record Adds (i : ℕ) (ps : List ℕ) (before after : Arrows) : Type 0 where
  pub same_row : after.row.ghost_name ≡ before.row.ghost_name
  pub added : Added i ps before.count before.row.now after.count after.row.now

-- what the line at `at` gives, with these predecessors of task i on it
pub record Gives (text : List ℕ) (at i : ℕ) (ps : List ℕ) (row : List (List ℕ)) (a : ℕ) (below : Bool) (b e : ℕ) (row' : List (List ℕ)) : Type 0 where
  -- whether they are all below i
  pub each : all_pass (λ p. ltb p i) ps ≡ below
  -- their arrows went into the row
  pub adds : Added i ps a row b row'
  -- each arrow has cost a byte
  pub few : b ≤ e
  -- the next line begins at e
  pub next : later (drop at text) ≡ lines (drop e text)
  pub inside : e ≤ length text
  -- which is further on, unless the text ends here
  pub past : at ≤ e
  pub on : at < length text → at < e

-- the rest of a line, each of whose numbers is a predecessor
pub record PredecessorsAre (text : List ℕ) (at i : ℕ) (row : List (List ℕ)) (a k : ℕ) (below : Bool) (b e : ℕ) (row' : List (List ℕ)) : Type 0 where
  -- every field is a number
  pub sound : proper (line (drop at text)) ≡ true
  -- there are k of them
  pub many : length (numbers (line (drop at text))) ≡ k
  pub gives : Gives text at i (numbers (line (drop at text))) row a below b e row'

abbrev pub PredecessorsOf : List ℕ → ℕ → ℕ → Arrows → Arrows → Option Rest → Type 0
PredecessorsOf text at i before after None = proper (line (drop at text)) ≡ false
PredecessorsOf text at i before after (Some rest) =
    (after.row.ghost_name ≡ before.row.ghost_name)
    × PredecessorsAre text at i before.row.now before.count rest.count rest.below after.count rest.next after.row.now

-- ---- the tasks' lines

-- the line of task i
pub record TaskIs (text : List ℕ) (at i : ℕ) (row : List (List ℕ)) (a t : ℕ) (below : Bool) (b e : ℕ) (row' : List (List ℕ)) : Type 0 where
  -- its index is i, and it has as many predecessors as it says
  pub shaped : is_task i (line (drop at text)) ≡ true
  -- its time is t
  pub time : time_in (line (drop at text)) ≡ t
  pub gives : Gives text at i (predecessors_in (line (drop at text))) row a below b e row'

abbrev pub TaskOf : List ℕ → ℕ → ℕ → Arrows → Arrows → Option Task → Type 0
TaskOf text at i before after None = is_task i (line (drop at text)) ≡ false
TaskOf text at i before after (Some task) =
    (after.row.ghost_name ≡ before.row.ghost_name)
    × TaskIs text at i before.row.now before.count task.time task.below after.count task.next after.row.now

-- what lines leave: a refusal, or both rows and how many stand in each
pub data Outcome : Type 0 where
  Fails : Refusal → Outcome
  Rows : List ℕ → List (List ℕ) → ℕ → ℕ → Outcome

-- a reading put down in rows that hold j times and a arrows already
abbrev pub outcome : List ℕ → List (List ℕ) → ℕ → ℕ → Reading → Outcome
outcome ts ar j a (refuse refusal) = Fails refusal
outcome ts ar j a (graph us bs) = Rows (sets ts j us) (sets ar a (map hold bs)) (j + length us) (a + length bs)

-- one line passed: the place after it, and how many arrows there are then
pub record OneSubtask (text : List ℕ) (at j a : ℕ) (ts : List ℕ) (ar : List (List ℕ)) (b e : ℕ) (ts' : List ℕ) (ar' : List (List ℕ)) : Type 0 where
  pub does : (k : ℕ)
      → outcome ts ar j a (task_lines (j + 1) (suc k) (lines (drop at text))) ≡ outcome ts' ar' (j + 1) b (task_lines (j + 1 + 1) k (lines (drop e text)))
  pub inside : e ≤ length text
  pub few : b ≤ e

abbrev pub SubtaskOf : List ℕ → ℕ → ℕ → List ℕ → Arrows → List ℕ → Arrows → Result ℕ Refusal → Type 0
SubtaskOf text at j ts before ts' after (Err refusal) = (k : ℕ) → task_lines (j + 1) (suc k) (lines (drop at text)) ≡ refuse refusal
SubtaskOf text at j ts before ts' after (Ok e) =
    (after.row.ghost_name ≡ before.row.ghost_name) × OneSubtask text at j before.count ts before.row.now after.count e ts' after.row.now

-- all subtasks' lines
pub record AllSubtasks (text : List ℕ) (at n : ℕ) (ts : List ℕ) (ar : List (List ℕ)) (b e : ℕ) (ts' : List ℕ) (ar' : List (List ℕ)) : Type 0 where
  pub does : outcome ts ar 0 0 (task_lines 1 n (lines (drop at text))) ≡ outcome ts' ar' n b (exit_line (n + 1) (lines (drop e text)))
  pub inside : e ≤ length text

abbrev pub SubtasksOf : List ℕ → ℕ → ℕ → List ℕ → Arrows → List ℕ → Arrows → Result ℕ Refusal → Type 0
SubtasksOf text at n ts before ts' after (Err refusal) = outcome ts before.row.now 0 0 (task_lines 1 n (lines (drop at text))) ≡ Fails refusal
SubtasksOf text at n ts before ts' after (Ok e) =
    (after.row.ghost_name ≡ before.row.ghost_name) × AllSubtasks text at n ts before.row.now after.count e ts' after.row.now

-- ---- the other lines

-- the first line: n, passed at e
pub record FirstIs (text : List ℕ) (n e : ℕ) : Type 0 where
  pub does : read_lines (lines text) ≡ entry_line n (lines (drop e text))
  pub inside : e ≤ length text
  pub size : Among 1 256 n

abbrev pub FirstOf : List ℕ → Result Opening Refusal → Type 0
FirstOf text (Err refusal) = read_lines (lines text) ≡ refuse refusal
FirstOf text (Ok first) = FirstIs text first.subtasks first.next

-- a dummy's line: time 0, predecessors below i
abbrev pub dummy : ℕ → List ℕ → Reading → Reading
dummy i l reading = need (is_task i l) TaskLine (need (is_exit_dummy i l) DummyLine reading)

pub record Dummy (text : List ℕ) (at i e : ℕ) : Type 0 where
  pub does : (reading : Reading) → dummy i (line (drop at text)) reading ≡ reading
  pub next : later (drop at text) ≡ lines (drop e text)
  pub inside : e ≤ length text

abbrev pub DummyOf : List ℕ → ℕ → ℕ → Result ℕ Refusal → Type 0
DummyOf text at i (Err refusal) = (reading : Reading) → dummy i (line (drop at text)) reading ≡ refuse refusal
DummyOf text at i (Ok e) = Dummy text at i e

-- a line that may stand after the last task's
pub record Follower (text : List ℕ) (at e : ℕ) : Type 0 where
  pub may : may_follow (line (drop at text)) ≡ true
  pub next : later (drop at text) ≡ lines (drop e text)
  pub inside : e ≤ length text
  pub on : at < e

abbrev pub FollowerOf : List ℕ → ℕ → Option ℕ → Type 0
FollowerOf text at None = may_follow (line (drop at text)) ≡ false
FollowerOf text at (Some e) = Follower text at e

-- the first line and the entry dummy's: n, and the subtasks' lines begin at e
pub record Opened (text : List ℕ) (n e : ℕ) : Type 0 where
  pub does : read_lines (lines text) ≡ task_lines 1 n (lines (drop e text))
  pub inside : e ≤ length text
  pub size : Among 1 256 n

abbrev pub OpeningOf : List ℕ → Result Opening Refusal → Type 0
OpeningOf text (Err refusal) = read_lines (lines text) ≡ refuse refusal
OpeningOf text (Ok first) = Opened text first.subtasks first.next

-- what the lines after the last subtask's leave
abbrev pub closed : Result (Unit {0}) Refusal → Reading
closed (Ok tt) = graph [] []
closed (Err refusal) = refuse refusal

-- ---- all lines

-- all lines of a reading leave a refusal; or n subtasks, 1..256, and their arrows in the two rows
unfoldable pub Leaves : List ℕ → List (List ℕ) → Reading → List ℕ → List (List ℕ) → Result GraphSize Refusal → Type 0
Leaves ts ar reading ts' ar' (Err refusal) = outcome ts ar 0 0 reading ≡ Fails refusal
Leaves ts ar reading ts' ar' (Ok size) =
    (outcome ts ar 0 0 reading ≡ Rows ts' ar' size.subtasks size.arrows) × Among 1 256 size.subtasks
