-- The line at hand, the first line, a task's line and a dummy's. Assumes nothing.
use Rattle.std.proofs.Common.{◌≡◌, refl, sym, ◌∙◌, ap, List, [], ◌∷◌, Bool, true, false, ◌&&◌, ℕ, suc, ◌≤◌, ◌<◌, arith, eq-eqb, ne_eqb, le-leb, le-ltb}
use Rattle.std.proofs.Common.{eqb, leb, ltb, length, get_or, drop, drop-cons}
use Rattle.std.proofs.Math.Bool.{and-false}
use Rattle.std.proofs.lemmas.Bool.{lt-leb}
use Rattle.terms.specs.Texts.{all_pass, lines, proper, numbers}
use Rattle.terms.specs.Readings.{Reading, refuse, line_at_hand, lines_after, is_size, is_first, is_shape, is_task, is_entry_dummy, is_exit_dummy, predecessors_in}
use Rattle.terms.specs.Readings.{trailer, exit_line, task_lines, entry_line, read_lines}
use Rattle.text.specs.Rest.{line, later}
use Rattle.text.specs.Standing.{Ended, Passed}
use Rattle.text.proofs.Lines.{lines_cons}
use Rattle.stg.specs.LinesRead.{PredecessorsAre, TaskIs, FirstIs, Dummy, dummy}
use Rattle.stg.specs.Numbers.{NoNumber, SomeNumber}
use Rattle.terms.specs.declared.Refusal.TheVariants.{DummyLine, FirstLine}

-- ---- the line at hand

pub top_line : (s : List ℕ) → line_at_hand (lines s) ≡ line s
unfolding lines line
top_line [] = refl
top_line (b ∷ s) = ap line_at_hand (lines_cons b s)

pub rest_line : (s : List ℕ) → lines_after (lines s) ≡ later s
unfolding lines later
rest_line [] = refl
rest_line (b ∷ s) = ap lines_after (lines_cons b s)

pub lines_at : (s : List ℕ) (i : ℕ) → i < length s → lines (drop i s) ≡ line (drop i s) ∷ later (drop i s)
lines_at s i h = rw (drop-cons s i 0 h) (lines_cons (get_or s i 0) (drop (suc i) s))

-- ---- a line that fails a test of its numbers

fails : (s t : Bool) → (s ≡ true → t ≡ false) → (s && t) ≡ false
fails true t h = h refl
fails false t h = refl

-- ---- the first line

module _ (text : List ℕ) where
  not_first : (proper (line text) ≡ true → is_size (numbers (line text)) ≡ false) → read_lines (lines text) ≡ refuse FirstLine
  unfolding read_lines is_first
  not_first h = rw (top_line text, fails (proper (line text)) (is_size (numbers (line text))) h)

  pub first_none : NoNumber text 0 → read_lines (lines text) ≡ refuse FirstLine
  unfolding is_size
  first_none h = not_first (λ s. rw (h s))

module _ {text : List ℕ} {n e : ℕ} (p : Passed text 0 n e) where
  two_sizes : (ns : List ℕ) → 1 ≤ length ns → is_size (n ∷ ns) ≡ false
  unfolding is_size
  two_sizes [] h = absurd (omega arith)
  two_sizes (m ∷ ns) h = refl

  pub first_more : SomeNumber text e → read_lines (lines text) ≡ refuse FirstLine
  first_more h =
      not_first text
      (λ s. let r = sym p.sound ∙ s in ap is_size (p.some r) ∙ two_sizes (numbers (line (drop e text))) (h r))

  module _ {f : ℕ} (q : Ended text e f) where
    one : numbers (line text) ≡ n ∷ []
    one = p.some q.sound ∙ ap (λ (ns : List ℕ). n ∷ ns) q.none

    size : is_size (numbers (line text)) ≡ (leb 1 n && leb n 256)
    unfolding is_size
    size = rw one

    pub first_low : n < 1 → read_lines (lines text) ≡ refuse FirstLine
    first_low l = not_first text (λ _. rw (size, lt-leb 1 n l))

    pub first_high : 256 < n → read_lines (lines text) ≡ refuse FirstLine
    first_high l = not_first text (λ _. rw (size, lt-leb n 256 l, and-false))

    pub first_is : 1 ≤ n → n ≤ 256 → FirstIs text n f
    unfolding read_lines is_first
    first_is l m =
        record {
          does = rw (top_line text, rest_line text, p.sound, q.sound, size, le-leb 1 n l, le-leb n 256 m, one, p.next, q.next);
          inside = q.inside;
          size = record { low = l; high = m };
        }

-- ---- a task's line

-- the first three numbers of the line at hand are x, y and z, and are passed at e
pub record Headed (text : List ℕ) (at x y z e : ℕ) : Type 0 where
  pub sound : proper (line (drop at text)) ≡ proper (line (drop e text))
  pub some : proper (line (drop e text)) ≡ true → numbers (line (drop at text)) ≡ x ∷ y ∷ z ∷ numbers (line (drop e text))
  pub next : later (drop at text) ≡ later (drop e text)
  pub inside : e ≤ length text
  pub on : at < e

pub headed : {text : List ℕ} {at x e y f z g : ℕ} → Passed text at x e → Passed text e y f → Passed text f z g → Headed text at x y z g
headed {x = x} {y = y} p q r =
    record {
      sound = p.sound ∙ q.sound ∙ r.sound;
      some =
          λ s. p.some (q.sound ∙ r.sound ∙ s) ∙ ap (λ (ns : List ℕ). x ∷ ns) (q.some (r.sound ∙ s)) ∙ ap (λ (ns : List ℕ). x ∷ y ∷ ns) (r.some s);
      next = p.next ∙ q.next ∙ r.next;
      inside = r.inside;
      on = omega (arith, p.on, q.on, r.on);
    }

module _ (text : List ℕ) (at i : ℕ) where
  not_task : (proper (line (drop at text)) ≡ true → is_shape i (numbers (line (drop at text))) ≡ false) → is_task i (line (drop at text)) ≡ false
  unfolding is_task
  not_task h = fails (proper (line (drop at text))) (is_shape i (numbers (line (drop at text)))) h

  -- fewer than three numbers
  pub task_none : NoNumber text at → is_task i (line (drop at text)) ≡ false
  unfolding is_shape
  task_none h = not_task (λ s. rw (h s))

  pub task_one : {x e : ℕ} → Passed text at x e → NoNumber text e → is_task i (line (drop at text)) ≡ false
  unfolding is_shape
  task_one p h = not_task (λ s. let r = sym p.sound ∙ s in rw (p.some r, h r))

  pub task_two : {x e y f : ℕ} → Passed text at x e → Passed text e y f → NoNumber text f → is_task i (line (drop at text)) ≡ false
  unfolding is_shape
  task_two p q h = not_task (λ s. let r = sym q.sound ∙ sym p.sound ∙ s in rw (p.some (q.sound ∙ r), q.some r, h r))

  -- another index
  other_shape : (x : ℕ) (ns : List ℕ) → (x ≡ i → ⊥) → is_shape i (x ∷ ns) ≡ false
  unfolding is_shape
  other_shape x [] n = refl
  other_shape x (y ∷ []) n = refl
  other_shape x (y ∷ z ∷ ns) n = rw (ne_eqb x i n)

  pub task_other : {x e : ℕ} → Passed text at x e → (x ≡ i → ⊥) → is_task i (line (drop at text)) ≡ false
  task_other {x} {e} p n = not_task (λ s. ap (is_shape i) (p.some (sym p.sound ∙ s)) ∙ other_shape x (numbers (line (drop e text))) n)

  module _ {x y z e : ℕ} (h : Headed text at x y z e) where
    pub task_bad : proper (line (drop e text)) ≡ false → is_task i (line (drop at text)) ≡ false
    unfolding is_task
    task_bad s = rw (h.sound ∙ s)

    module _ {row : List (List ℕ)} {a k : ℕ} {below : Bool} {b f : ℕ} {row' : List (List ℕ)} (w : PredecessorsAre text e i row a k below b f row') where
      shape : is_shape i (numbers (line (drop at text))) ≡ (eqb x i && eqb k z)
      unfolding is_shape
      shape = rw (h.some w.sound, w.many)

      pub task_miss : (z ≡ k → ⊥) → is_task i (line (drop at text)) ≡ false
      task_miss n = not_task (λ _. rw (shape, ne_eqb k z (λ m. n (sym m)), and-false))

      pub task_is : x ≡ i → z ≡ k → TaskIs text at i row a y below b f row'
      unfolding is_task
      task_is m n =
          record {
            shaped = rw (h.sound ∙ w.sound, shape, eq-eqb x i m, eq-eqb k z (sym n));
            time = rw (h.some w.sound);
            gives =
                rw (h.some w.sound)
                (record {
                  each = w.gives.each;
                  adds = w.gives.adds;
                  few = w.gives.few;
                  next = h.next ∙ w.gives.next;
                  inside = w.gives.inside;
                  past = omega (arith, h.on, w.gives.past);
                  on = λ _. omega (arith, h.on, w.gives.past);
                });
          }

-- ---- a dummy's line

all_below_0 : (ps : List ℕ) → all_pass (λ p. ltb p 0) ps ≡ eqb (length ps) 0
unfolding all_pass
all_below_0 [] = refl
all_below_0 (p ∷ ps) = rw (le-ltb p 0 (omega arith), ne_eqb (suc (length ps)) 0 (λ e. omega arith))

pub entry_line_lem : (n : ℕ) (s : List ℕ) → entry_line n (lines s) ≡ dummy 0 (line s) (task_lines 1 n (later s))
unfolding entry_line is_entry_dummy is_exit_dummy
entry_line_lem n s = rw (top_line s, rest_line s, all_below_0 (predecessors_in (line s)))

pub exit_line_lem : (i : ℕ) (s : List ℕ) → exit_line i (lines s) ≡ dummy i (line s) (trailer (later s))
unfolding exit_line
exit_line_lem i s = rw (top_line s, rest_line s)

module _ {text : List ℕ} {at i : ℕ} {row : List (List ℕ)} {a t : ℕ} {below : Bool} {b e : ℕ} {row' : List (List ℕ)}
    (h : TaskIs text at i row a t below b e row') where
  is_dummy : is_exit_dummy i (line (drop at text)) ≡ (eqb t 0 && below)
  unfolding is_exit_dummy
  is_dummy = rw (h.time, h.gives.each)

  pub dummy_time : (t ≡ 0 → ⊥) → (r : Reading) → dummy i (line (drop at text)) r ≡ refuse DummyLine
  dummy_time z r = rw (h.shaped, is_dummy, ne_eqb t 0 z)

  pub dummy_far : below ≡ false → (r : Reading) → dummy i (line (drop at text)) r ≡ refuse DummyLine
  dummy_far z r = rw (h.shaped, is_dummy, z, and-false)

  pub dummy_is : t ≡ 0 → below ≡ true → Dummy text at i e
  dummy_is y z = record { does = λ r. rw (h.shaped, is_dummy, eq-eqb t 0 y, z); next = h.gives.next; inside = h.gives.inside }
