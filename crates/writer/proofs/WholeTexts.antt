-- The whole text, part by part: the number of subtasks, the entry dummy's line, the subtasks' lines, the exit dummy's line. Assumes nothing.
use Rattle.std.proofs.Common.{◌≡◌, refl, sym, ap, ap₂, ◌∙◌, List, [], ◌∷◌, ◌++◌, append_assoc, append-nil, ℕ, ◌+◌, arith, length, length-append}
use Rattle.terms.specs.Arrangements.{row_of}
use Rattle.terms.specs.Writings.{decimal, further, line, text_of, subtask_lines, exit_numbers}
use Rattle.room.specs.Puts.{HasRoom, Stands, Put}
use Rattle.room.proofs.Remaining.{Remains, remains_all, remains_same, remains_room, remains_stands, remains_put}
use Rattle.writer.specs.Lines.{task_line, subtasks_text, rows_text}
use Rattle.writer.proofs.SubtaskTexts.{text_first}

-- ---- lines of a text

text_last : (ls : List (List ℕ)) (l : List ℕ) → text_of (ls ++ (l ∷ [])) ≡ text_of ls ++ (line l ++ (10 ∷ []))
unfolding text_of
text_last [] l = refl
text_last (m ∷ ls) l = ap (λ (t : List ℕ). line m ++ 10 ∷ t) (text_last ls l) ∙ sym (append_assoc (line m) (10 ∷ text_of ls) (line l ++ (10 ∷ [])))

line_one : (x : ℕ) → line (x ∷ []) ≡ decimal x
unfolding line further
line_one x = append-nil (decimal x)

-- ---- the parts

module _ (times begins numbers lasts : List ℕ) where
  abbrev bytes : List ℕ
  bytes = rows_text times begins numbers lasts

  abbrev exit : List ℕ
  exit = task_line (length times + 1) 0 lasts

  abbrev after_entry : List ℕ
  after_entry = subtasks_text times begins numbers ++ exit

  abbrev after_count : List ℕ
  after_count = task_line 0 0 [] ++ after_entry

  parts : bytes ≡ decimal (length times) ++ ((10 ∷ []) ++ after_count)
  unfolding rows_text subtasks_text task_line exit_numbers
  parts =
      text_first (length times ∷ []) ((0 ∷ 0 ∷ 0 ∷ []) ∷ subtask_lines (row_of begins numbers) 1 times ++ exit_numbers (length times) lasts ∷ [])
      ∙ append_assoc (line (length times ∷ [])) (10 ∷ []) _
      ∙ ap₂ (λ (n after : List ℕ). n ++ ((10 ∷ []) ++ after)) (line_one (length times))
      (text_first (0 ∷ 0 ∷ 0 ∷ []) (subtask_lines (row_of begins numbers) 1 times ++ exit_numbers (length times) lasts ∷ [])
      ∙ ap (λ (after : List ℕ). (line (0 ∷ 0 ∷ 0 ∷ []) ++ (10 ∷ [])) ++ after)
      (text_last (subtask_lines (row_of begins numbers) 1 times) (exit_numbers (length times) lasts)))

  -- ---- put one behind the other

  module _ {l m k : List ℕ} {at a b : ℕ} (h : HasRoom l at bytes) (p : Put l at (decimal (length times)) m a) (q : Put m a (10 ∷ []) k b) where
    head_stands : Remains l at bytes k b after_count
    head_stands = remains_put after_count (remains_put ((10 ∷ []) ++ after_count) (remains_same parts (remains_all l at bytes h)) p) q

    -- there is room for the entry dummy's line
    pub entry_room : HasRoom k b (task_line 0 0 [])
    entry_room = remains_room (task_line 0 0 []) after_entry head_stands

    -- and behind it for the subtasks' lines
    module _ {j : List ℕ} {c : ℕ} (r : Stands k b (task_line 0 0 []) j c) where
      pub subtasks_room : HasRoom j c (subtasks_text times begins numbers)
      subtasks_room = remains_room (subtasks_text times begins numbers) exit (remains_stands after_entry head_stands r)

      -- and behind them for the exit dummy's line; then all stands
      module _ {i : List ℕ} {d : ℕ} (s : Stands j c (subtasks_text times begins numbers) i d) where
        exit_remains : Remains l at bytes i d exit
        exit_remains = remains_stands exit (remains_stands after_entry head_stands r) s

        pub exit_room : HasRoom i d exit
        exit_room = exit_remains.room

        pub text_stands : {g : List ℕ} {e : ℕ} → Stands i d exit g e → Stands l at bytes g e
        text_stands {g} {e} t = exit_remains.all g e t

  -- ---- their lengths together

  pub text_counted : (a b c d : ℕ) → a ≡ length (decimal (length times)) → b ≡ length (task_line 0 0 []) → c ≡ length (subtasks_text times begins numbers)
      → d ≡ length exit → a + 1 + b + c + d ≡ length bytes
  text_counted a b c d ea eb ec ed = omega (
    arith,
    ea,
    eb,
    ec,
    ed,
    ap length parts,
    length-append (decimal (length times)) ((10 ∷ []) ++ after_count),
    length-append (task_line 0 0 []) after_entry,
    length-append (subtasks_text times begins numbers) exit,
  )

-- what a room holds in the end
pub left_in : {before after bytes : List ℕ} {at past : ℕ} (text : List ℕ) → text ≡ after → Stands before at bytes after past
    → (k : ℕ) × Stands before at bytes text k
left_in {past = past} text e s = (past, rw e s)
