-- The lines of the subtasks, one by one: what is put and what remains make up all, and so do what is counted and what remains. Assumes nothing.
use Rattle.std.proofs.Common.{◌≡◌, refl, sym, ap, ap₂, ◌∙◌, List, [], ◌∷◌, ◌++◌, append_assoc, ℕ, suc, ◌+◌, ◌*◌, ◌≤◌, ◌<◌, arith, length, get_or, drop}
use Rattle.std.proofs.Common.{length-append, drop_of_length-le, drop-cons}
use Rattle.terms.specs.Arrangements.{row_of}
use Rattle.terms.specs.Writings.{line, text_of, with_count, subtask_lines}
use Rattle.room.specs.Puts.{HasRoom, Stands}
use Rattle.room.proofs.Remaining.{Remains, remains_all, remains_same, remains_room, remains_stands, remains_none}
use Rattle.writer.specs.Lines.{task_line, subtasks_text}

-- the first line of a text, with its LF
pub text_first : (l : List ℕ) (ls : List (List ℕ)) → text_of (l ∷ ls) ≡ (line l ++ (10 ∷ [])) ++ text_of ls
unfolding text_of
text_first l ls = sym (append_assoc (line l) (10 ∷ []) (text_of ls))

module _ (times begins numbers : List ℕ) where
  -- the lines of the subtasks behind the first i
  abbrev left : ℕ → List ℕ
  left i = text_of (subtask_lines (row_of begins numbers) (i + 1) (drop i times))

  -- the first of them: its time, and its row as the line shows it
  pub record NextLine (i time : ℕ) (row : List ℕ) : Type 0 where
    pub below : i < length times
    pub time_is : time ≡ get_or times i 0
    pub row_is : length row ∷ row ≡ with_count (row_of begins numbers (i + 1))

  next : {i time : ℕ} {row : List ℕ} → NextLine i time row → left i ≡ task_line (i + 1) time row ++ left (i + 1)
  unfolding task_line subtask_lines
  next {i} at =
      let e : suc i ≡ i + 1 = omega arith in
      let rows = row_of begins numbers in
      let first : ℕ → List ℕ → List ℕ = λ t ps. line ((i + 1) ∷ t ∷ ps) ++ 10 ∷ [] in
      let behind : ℕ → List (List ℕ) = λ k. subtask_lines rows (i + 1 + 1) (drop k times) in
      ap (λ (ts : List ℕ). text_of (subtask_lines rows (i + 1) ts)) (drop-cons times i 0 at.below)
      ∙ text_first ((i + 1) ∷ get_or times i 0 ∷ with_count (rows (i + 1))) (behind (suc i))
      ∙ ap (λ (k : ℕ). first (get_or times i 0) (with_count (rows (i + 1))) ++ text_of (behind k)) e
      ∙ ap₂ (λ (t : ℕ) (ps : List ℕ). first t ps ++ left (i + 1)) (sym at.time_is) (sym at.row_is)

  nothing_left : {i : ℕ} → length times ≤ i → left i ≡ []
  unfolding subtask_lines text_of
  nothing_left {i} h = ap (λ (ts : List ℕ). text_of (subtask_lines (row_of begins numbers) (i + 1) ts)) (drop_of_length-le times h)

  all_left : left 0 ≡ subtasks_text times begins numbers
  unfolding subtasks_text
  all_left = refl

  -- ---- put one by one

  -- those behind the first i remain
  pub record LinesRemain (l : List ℕ) (at : ℕ) (text : List ℕ) (k i : ℕ) : Type 0 where
    pub remain : Remains l at (subtasks_text times begins numbers) text k (left i)
    pub inside : i ≤ length times

  pub lines_all : (l : List ℕ) (at : ℕ) → HasRoom l at (subtasks_text times begins numbers) → LinesRemain l at l at 0
  lines_all l at h = record { remain = remains_same (sym all_left) (remains_all l at (subtasks_text times begins numbers) h); inside = omega arith }

  module _ {l text row : List ℕ} {at k i time : ℕ} (lines : LinesRemain l at text k i) (one : NextLine i time row) where
    first_remains : Remains l at (subtasks_text times begins numbers) text k (task_line (i + 1) time row ++ left (i + 1))
    first_remains = remains_same (next one) lines.remain

    pub line_room : HasRoom text k (task_line (i + 1) time row)
    line_room = remains_room (task_line (i + 1) time row) (left (i + 1)) first_remains

    pub lines_next : {m : List ℕ} {a : ℕ} → Stands text k (task_line (i + 1) time row) m a → LinesRemain l at m a (i + 1)
    lines_next s = record { remain = remains_stands (left (i + 1)) first_remains s; inside = omega (arith, one.below) }

  pub lines_end : {l text : List ℕ} {at k i : ℕ} → length times ≤ i → LinesRemain l at text k i → Stands l at (subtasks_text times begins numbers) text k
  lines_end h lines = remains_none (remains_same (nothing_left h) lines.remain)

  -- ---- counted one by one

  -- those of the first i are counted
  pub record LinesCounted (size i : ℕ) : Type 0 where
    pub all : size + length (left i) ≡ length (subtasks_text times begins numbers)
    pub most : size ≤ 30000 * i
    pub inside : i ≤ length times

  pub counted_none : LinesCounted 0 0
  counted_none = record { all = omega (arith, ap length all_left); most = omega arith; inside = omega arith }

  pub counted_next : {size i time : ℕ} {row : List ℕ} (a : ℕ) → LinesCounted size i → NextLine i time row
      → (a ≡ length (task_line (i + 1) time row)) × (a ≤ 30000) → LinesCounted (size + a) (i + 1)
  counted_next {size} {i} {time} {row} a counted one (ea, ha) = record {
    all = omega (arith, counted.all, ea, ap length (next one), length-append (task_line (i + 1) time row) (left (i + 1)));
    most = omega (arith, counted.most, ha);
    inside = omega (arith, one.below);
  }

  pub counted_all : {size i : ℕ} → length times ≤ 256 → length times ≤ i → LinesCounted size i
      → (size ≡ length (subtasks_text times begins numbers)) × (size ≤ 8000000)
  counted_all {size} {i} few h counted = (omega (arith, counted.all, ap length (nothing_left h)), omega (arith, counted.most, counted.inside, few))
