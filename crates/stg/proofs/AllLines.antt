-- All lines of a text, in order. Assumes nothing.
use Rattle.std.proofs.Common.{◌≡◌, ◌∙◌, ap, List, [], ℕ, ◌+◌, add-zero, drop, Result, Ok, Err}
use Rattle.terms.specs.Graphs.{Among}
use Rattle.terms.specs.Texts.{lines}
use Rattle.terms.specs.Readings.{Reading, refuse, graph, trailer, exit_line, task_lines, read_lines}
use Rattle.terms.specs.declared.Refusal.{Refusal}
use Rattle.text.specs.Rest.{line, later}
use Rattle.stg.specs.LinesRead.{outcome, FirstIs, Dummy, dummy, AllSubtasks, Opened, closed, Leaves}
use Rattle.stg.proofs.OneLine.{entry_line_lem, exit_line_lem}

-- the first line and the entry dummy's
module _ {text : List ℕ} {n e : ℕ} (f : FirstIs text n e) where
  to_entry : read_lines (lines text) ≡ dummy 0 (line (drop e text)) (task_lines 1 n (later (drop e text)))
  to_entry = f.does ∙ entry_line_lem n (drop e text)

  pub entry_refused : (c : Refusal) → ((reading : Reading) → dummy 0 (line (drop e text)) reading ≡ refuse c) → read_lines (lines text) ≡ refuse c
  entry_refused c d = to_entry ∙ d (task_lines 1 n (later (drop e text)))

  pub opened : {g : ℕ} → Dummy text e 0 g → Opened text n g
  opened d =
      record {
        does = to_entry ∙ d.does (task_lines 1 n (later (drop e text))) ∙ ap (task_lines 1 n) d.next;
        inside = d.inside;
        size = f.size;
      }

-- the exit dummy's line and those that may follow
module _ (text : List ℕ) (at i : ℕ) where
  pub exit_refused : (c : Refusal) → ((reading : Reading) → dummy i (line (drop at text)) reading ≡ refuse c) → exit_line i (lines (drop at text)) ≡ refuse c
  exit_refused c d = exit_line_lem i (drop at text) ∙ d (trailer (later (drop at text)))

  pub exit_passed : {e : ℕ} → Dummy text at i e → exit_line i (lines (drop at text)) ≡ trailer (lines (drop e text))
  exit_passed d = exit_line_lem i (drop at text) ∙ d.does (trailer (later (drop at text))) ∙ ap trailer d.next

-- the lines from the subtasks' on, and all of them
module _ (text : List ℕ) (ts : List ℕ) (ar : List (List ℕ)) (ts' : List ℕ) (ar' : List (List ℕ)) where
  pub opening_refused : (refusal : Refusal) → read_lines (lines text) ≡ refuse refusal → Leaves ts ar (read_lines (lines text)) ts' ar' (Err refusal)
  unfolding Leaves
  opening_refused refusal e = ap (outcome ts ar 0 0) e

  module _ {n e b f : ℕ} (t : AllSubtasks text e n ts ar b f ts' ar') where
    to_close : (r : Result (Unit {0}) Refusal) → exit_line (n + 1) (lines (drop f text)) ≡ closed r
        → outcome ts ar 0 0 (task_lines 1 n (lines (drop e text))) ≡ outcome ts' ar' n b (closed r)
    to_close r c = t.does ∙ ap (outcome ts' ar' n b) c

    pub closing_refused : (refusal : Refusal) → exit_line (n + 1) (lines (drop f text)) ≡ refuse refusal
        → Leaves ts ar (task_lines 1 n (lines (drop e text))) ts' ar' (Err refusal)
    unfolding Leaves
    closing_refused refusal c = to_close (Err refusal) c

    -- the lent row holds in the end what was put down
    pub closing_sound : (row : List (List ℕ)) → row ≡ ar' → exit_line (n + 1) (lines (drop f text)) ≡ graph [] [] → Among 1 256 n
        → Leaves ts ar (task_lines 1 n (lines (drop e text))) ts' row (Ok (record { subtasks = n; arrows = b }))
    unfolding Leaves
    closing_sound row q c size = rw q (to_close (Ok tt) c ∙ rw (add-zero n, add-zero b), size)
