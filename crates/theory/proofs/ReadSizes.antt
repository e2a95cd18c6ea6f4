-- A graph that was read has at most 256 subtasks and 2,048 arrows. Assumes nothing.
use Rattle.std.proofs.Common.{◌≡◌, refl, sym, ◌∙◌, Bool, true, false, ◌&&◌, List, [], ◌∷◌, ℕ, zero, suc, ◌+◌, ◌≤◌, arith, leb, length, get_or}
use Rattle.std.proofs.Math.Bool.{and-false}
use Rattle.std.proofs.Math.Logic.{by_cases}
use Rattle.std.proofs.Math.Decide.{dec_le}
use Rattle.std.proofs.lemmas.Bool.{lt-leb}
use Rattle.terms.specs.Rows.{Accepted}
use Rattle.terms.specs.Refusals.{time_rows, size_rows, time_and_arrow_rows}
use Rattle.terms.specs.Texts.{lines, proper, numbers}
use Rattle.terms.specs.Readings.{Reading, refuse, graph, need, line_at_hand, lines_after, is_size, is_first, size_in, is_task, time_in, predecessors_in}
use Rattle.terms.specs.Readings.{arrows_into, is_entry_dummy, is_exit_dummy, may_follow, with_task, trailer, exit_line, task_lines, entry_line, read_lines}
use Rattle.terms.specs.Readings.{read_text, IsReplyTo, IsRead}
use Rattle.terms.specs.declared.GraphSize.{GraphSize}
use Rattle.theory.proofs.Answers.{holds_of, none_holds}
use Rattle.std.specs.Prelude.{Ok}
use Rattle.terms.specs.declared.Refusal.{Refusal}
use Rattle.terms.specs.declared.Refusal.TheVariants.{Room, TextLength, FirstLine, TaskLine, DummyLine, TimeLarge}

-- how many subtasks a reading has
count : Reading → ℕ
count (refuse k) = 0
count (graph times arrows) = length times

count_need : (test : Bool) (refusal : Refusal) (reading : Reading) → count (need test refusal reading) ≤ count reading
unfolding count
count_need true refusal reading = omega arith
count_need false refusal reading = omega arith

count_with : (time : ℕ) (into : List (List ℕ)) (reading : Reading) → count (with_task time into reading) ≤ 1 + count reading
unfolding count with_task
count_with time into (refuse k) = omega arith
count_with time into (graph times arrows) = omega arith

count_trailer : (ls : List (List ℕ)) → count (trailer ls) ≤ 0
unfolding trailer count
count_trailer [] = omega arith
count_trailer (line ∷ later) = omega (arith, count_need (may_follow line) TaskLine (trailer later), count_trailer later)

count_exit : (i : ℕ) (ls : List (List ℕ)) → count (exit_line i ls) ≤ 0
unfolding exit_line
count_exit i ls = omega (
  arith,
  count_need (is_task i (line_at_hand ls)) TaskLine (need (is_exit_dummy i (line_at_hand ls)) DummyLine (trailer (lines_after ls))),
  count_need (is_exit_dummy i (line_at_hand ls)) DummyLine (trailer (lines_after ls)),
  count_trailer (lines_after ls),
)

count_tasks : (i left : ℕ) (ls : List (List ℕ)) → count (task_lines i left ls) ≤ left
unfolding task_lines
count_tasks i zero ls = count_exit i ls
count_tasks i (suc left) ls =
    let line = line_at_hand ls in
    let later = task_lines (i + 1) left (lines_after ls) in
    let task = with_task (time_in line) (arrows_into i (predecessors_in line)) later in
    omega (
      arith,
      count_need (is_task i line) TaskLine (need (leb (time_in line) 65535) TimeLarge task),
      count_need (leb (time_in line) 65535) TimeLarge task,
      count_with (time_in line) (arrows_into i (predecessors_in line)) later,
      count_tasks (i + 1) left (lines_after ls),
    )

count_entry : (n : ℕ) (ls : List (List ℕ)) → count (entry_line n ls) ≤ n
unfolding entry_line
count_entry n ls =
    let line = line_at_hand ls in
    let tasks = task_lines 1 n (lines_after ls) in
    omega (arith, count_need (is_task 0 line) TaskLine (need (is_entry_dummy line) DummyLine tasks), count_need (is_entry_dummy line) DummyLine tasks, count_tasks 1 n (lines_after ls))

-- the first line's number is at most 256, or the text is refused
no_truth : false ≡ true → ⊥
no_truth e = let z : ◌≡◌ {A = ℕ} 0 1 = cc in omega arith

over : (b : Bool) → (b && false) ≡ true → ⊥
over b e = no_truth (sym (and-false b) ∙ e)

size_most : (ns : List ℕ) → is_size ns ≡ true → get_or ns 0 0 ≤ 256
unfolding is_size
size_most [] e = omega arith
size_most (n ∷ []) e = by_cases (dec_le n 256) (λ l. l) (λ l. absurd (over (leb 1 n) (rw (lt-leb n 256 (omega arith)) at e)))
size_most (n ∷ m ∷ ns) e = absurd (no_truth e)

count_first : (first : Bool) (n : ℕ) (ls : List (List ℕ)) → (first ≡ true → n ≤ 256) → count (need first FirstLine (entry_line n ls)) ≤ 256
unfolding count
count_first true n ls h = omega (arith, h refl, count_entry n ls)
count_first false n ls h = omega arith

first_size : (line : List ℕ) → is_first line ≡ true → size_in line ≤ 256
unfolding is_first
first_size line e = size_most (numbers line) (second (proper line) (is_size (numbers line)) e)
  where
    second : (a b : Bool) → (a && b) ≡ true → b ≡ true
    second true b e = e
    second false b e = absurd (no_truth e)

count_lines : (ls : List (List ℕ)) → count (read_lines ls) ≤ 256
unfolding read_lines
count_lines ls = count_first (is_first (line_at_hand ls)) (size_in (line_at_hand ls)) (lines_after ls) (first_size (line_at_hand ls))

count_text : (times_room arrows_room : ℕ) (text : List ℕ) → count (read_text times_room arrows_room text) ≤ 256
unfolding read_text
count_text times_room arrows_room text =
    let read = read_lines (lines text) in
    omega (
      arith,
      count_need (leb 256 times_room && leb 2048 arrows_room) Room (need (leb (length text) 60000) TextLength read),
      count_need (leb (length text) 60000) TextLength read,
      count_lines (lines text),
    )

-- at most 2,048 arrows, where 3 does not hold
few_arrows_lem : (times : List ℕ) (arrows : List (List ℕ)) → Accepted (time_and_arrow_rows times arrows) → length arrows ≤ 2048
unfolding time_and_arrow_rows time_rows size_rows holds_of
few_arrows_lem times arrows a = by_cases (dec_le (length arrows) 2048) (λ l. l) (λ l. absurd (none_holds 3 (time_and_arrow_rows times arrows) a (omega arith)))

sizes : (reading : Reading) (times_room arrows_room : ℕ) (times_row : List ℕ) (arrows_row : List (List ℕ)) (size : GraphSize) → count reading ≤ 256
    → IsReplyTo reading times_room arrows_room times_row arrows_row (Ok size) → (size.subtasks ≤ 256) × (size.arrows ≤ 2048)
unfolding IsReplyTo count
sizes (refuse k) times_room arrows_room times_row arrows_row size l h = absurd h
sizes (graph times arrows) times_room arrows_room times_row arrows_row size l (a, n, m, held) = (omega (arith, n), omega (arith, m, few_arrows_lem times arrows a))

pub read_sizes : (times_room arrows_room : ℕ) (text times_row : List ℕ) (arrows_row : List (List ℕ)) (size : GraphSize)
    → IsRead times_room arrows_room text times_row arrows_row (Ok size) → (size.subtasks ≤ 256) × (size.arrows ≤ 2048)
read_sizes times_room arrows_room text times_row arrows_row size h =
    sizes (read_text times_room arrows_room text) times_room arrows_room times_row arrows_row size (count_text times_room arrows_room text) h
