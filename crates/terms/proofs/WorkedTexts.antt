-- Texts of docs/PLANNER.md and at its edges, read by computation from the definitions alone. Assumes nothing.
use Rattle.std.proofs.Common.{◌≡◌, refl, List, [], ◌∷◌, ◌++◌, ℕ}
use Rattle.terms.specs.Texts.{all_pass, lines, fields, value_from, proper, numbers, blanks, digits}
use Rattle.terms.specs.Readings.{Reading, refuse, graph, is_size, is_first, is_shape, is_task, is_entry_dummy, is_exit_dummy, may_follow, arrows_into}
use Rattle.terms.specs.Readings.{with_task, trailer, exit_line, task_lines, entry_line, read_lines, read_text}
use Rattle.terms.specs.declared.Refusal.TheVariants.{DummyLine, FirstLine, Room, TaskLine, TimeLarge}

-- a text, read with room for 256 times and 2,048 arrows
abbrev read : List ℕ → Reading
read text = read_text 256 2048 text

-- "2", "0 0 0", "1 5 1 0", "2 5 1 0", "3 0 2 1 2": the text of the bench program
abbrev frames : List ℕ
frames =
    (50 ∷ 10 ∷ 48 ∷ 32 ∷ 48 ∷ 32 ∷ 48 ∷ 10 ∷ [])
    ++ (49 ∷ 32 ∷ 53 ∷ 32 ∷ 49 ∷ 32 ∷ 48 ∷ 10 ∷ [])
    ++ (50 ∷ 32 ∷ 53 ∷ 32 ∷ 49 ∷ 32 ∷ 48 ∷ 10 ∷ [])
    ++ (51 ∷ 32 ∷ 48 ∷ 32 ∷ 50 ∷ 32 ∷ 49 ∷ 32 ∷ 50 ∷ 10 ∷ [])

-- "1" and "0 0 0", both with CR LF; some lines; "2 0 0"; a comment that lacks its end
abbrev around : List ℕ → List ℕ
around middle = (49 ∷ 13 ∷ 10 ∷ 48 ∷ 32 ∷ 48 ∷ 32 ∷ 48 ∷ 13 ∷ 10 ∷ []) ++ middle ++ (50 ∷ 32 ∷ 48 ∷ 32 ∷ 48 ∷ 10 ∷ 35 ∷ 120 ∷ [])

pub record WorkedTexts : Type 0 where
  pub bench : read frames ≡ graph (5 ∷ 5 ∷ []) []
  -- "2", "0 0 0", "1 5 0", "2 6 1 1", "3 0 1 2": subtask 2 waits for 1
  pub one_arrow : read
      ((50 ∷ 10 ∷ 48 ∷ 32 ∷ 48 ∷ 32 ∷ 48 ∷ 10 ∷ 49 ∷ 32 ∷ 53 ∷ 32 ∷ 48 ∷ 10 ∷ []) ++
      (50 ∷ 32 ∷ 54 ∷ 32 ∷ 49 ∷ 32 ∷ 49 ∷ 10 ∷ 51 ∷ 32 ∷ 48 ∷ 32 ∷ 49 ∷ 32 ∷ 50 ∷ []))
      ≡ graph (5 ∷ 6 ∷ []) ((1 ∷ 2 ∷ []) ∷ [])
  pub no_room : read_text 255 2048 frames ≡ refuse Room
  pub empty : read [] ≡ refuse FirstLine
  -- "1", "0 1 0": the entry dummy has a time
  pub timed_dummy : read (49 ∷ 10 ∷ 48 ∷ 32 ∷ 49 ∷ 32 ∷ 48 ∷ []) ≡ refuse DummyLine
  -- "1", "0 0 1": one predecessor is announced and none stands there
  pub short_dummy : read (49 ∷ 10 ∷ 48 ∷ 32 ∷ 48 ∷ 32 ∷ 49 ∷ []) ≡ refuse TaskLine
  -- "1 7 1 70000", with a tab: predecessor 70000 is an arrow, which 4 refuses
  pub far_predecessor : read (around (49 ∷ 32 ∷ 55 ∷ 9 ∷ 49 ∷ 32 ∷ 55 ∷ 48 ∷ 48 ∷ 48 ∷ 48 ∷ 10 ∷ [])) ≡ graph (7 ∷ []) ((70000 ∷ 1 ∷ []) ∷ [])
  -- "1 70000 0"
  pub long_time : read (around (49 ∷ 32 ∷ 55 ∷ 48 ∷ 48 ∷ 48 ∷ 48 ∷ 32 ∷ 48 ∷ 10 ∷ [])) ≡ refuse TimeLarge
  -- "1 7 0", then a CR that stands alone
  pub lone_return : read (around (49 ∷ 32 ∷ 55 ∷ 32 ∷ 48 ∷ 13 ∷ 32 ∷ 10 ∷ [])) ≡ refuse TaskLine
  -- "1 000000007 0": nine digits
  pub nine_digits : read (around (49 ∷ 32 ∷ 48 ∷ 48 ∷ 48 ∷ 48 ∷ 48 ∷ 48 ∷ 48 ∷ 48 ∷ 55 ∷ 32 ∷ 48 ∷ 10 ∷ [])) ≡ refuse TaskLine
  -- "1 7 0", "2 0 1 2" in the exit dummy's place: its predecessor is itself
  pub own_predecessor : read
      ((49 ∷ 10 ∷ 48 ∷ 32 ∷ 48 ∷ 32 ∷ 48 ∷ 10 ∷ 49 ∷ 32 ∷ 55 ∷ 32 ∷ 48 ∷ 10 ∷ []) ++ (50 ∷ 32 ∷ 48 ∷ 32 ∷ 49 ∷ 32 ∷ 50 ∷ [])) ≡ refuse DummyLine
  -- "1 7 0" and a comment before the exit dummy
  pub comment_inside : read (around (49 ∷ 32 ∷ 55 ∷ 32 ∷ 48 ∷ 10 ∷ 35 ∷ 10 ∷ [])) ≡ refuse TaskLine
  -- the next field of " \t12 3" is "12"
  pub next_piece : digits (49 ∷ 50 ∷ 32 ∷ 51 ∷ []) ≡ 49 ∷ 50 ∷ []

pub worked_texts : WorkedTexts
unfolding all_pass lines fields value_from proper numbers blanks digits is_size is_first is_shape is_task is_entry_dummy is_exit_dummy may_follow arrows_into with_task trailer exit_line task_lines entry_line read_lines read_text
worked_texts =
    record {
      bench = refl;
      one_arrow = refl;
      no_room = refl;
      empty = refl;
      timed_dummy = refl;
      short_dummy = refl;
      far_predecessor = refl;
      long_time = refl;
      lone_return = refl;
      nine_digits = refl;
      own_predecessor = refl;
      comment_inside = refl;
      next_piece = refl;
    }
