-- What stands at a place of a text: spaces and tabs, digits, a line's end. Assumes nothing.
use Rattle.std.proofs.Common.{ℕ, suc, ◌+◌, ◌≤◌, ◌<◌, ◌≡◌, refl, ap, List, [], ◌∷◌, Bool, true, false, cond, arith, length, take, drop, get_or, length-drop}
use Rattle.std.proofs.Common.{drop_of_length-le, drop-cons, ne_eqb}
use Rattle.terms.specs.Texts.{is_blank, is_digit, is_feed, blanks, digits}
use Rattle.text.specs.Steps.{line_size}

module _ (s : List ℕ) (i : ℕ) (h : i < length s) where
  pub blanks_stop : is_blank (get_or s i 0) ≡ false → blanks (drop i s) ≡ 0
  unfolding blanks
  blanks_stop e = rw (drop-cons s i 0 h, e)

  pub blanks_go : is_blank (get_or s i 0) ≡ true → blanks (drop i s) ≡ suc (blanks (drop (suc i) s))
  unfolding blanks
  blanks_go e = rw (drop-cons s i 0 h, e)

  pub size_stop : get_or s i 0 ≡ 10 → line_size (drop i s) ≡ 1
  unfolding line_size
  size_stop e = rw (drop-cons s i 0 h, e)

  pub size_go : (get_or s i 0 ≡ 10 → ⊥) → line_size (drop i s) ≡ suc (line_size (drop (suc i) s))
  unfolding line_size
  size_go e = rw (drop-cons s i 0 h, ne_eqb _ _ e)

  pub digits_stop : is_digit (get_or s i 0) ≡ false → digits (drop i s) ≡ []
  unfolding digits
  digits_stop e = rw (drop-cons s i 0 h, e)

  pub digits_go : is_digit (get_or s i 0) ≡ true → digits (drop i s) ≡ get_or s i 0 ∷ digits (drop (suc i) s)
  unfolding digits
  digits_go e = rw (drop-cons s i 0 h, e)

module _ (s : List ℕ) (i : ℕ) (h : length s ≤ i) where
  pub blanks_end : blanks (drop i s) ≡ 0
  unfolding blanks
  blanks_end = rw (drop_of_length-le s h)

  pub digits_end : digits (drop i s) ≡ []
  unfolding digits
  digits_end = rw (drop_of_length-le s h)

  pub size_none : line_size (drop i s) ≡ 0
  unfolding line_size
  size_none = rw (drop_of_length-le s h)

-- no more than the text has
shorter : (t : Bool) (n m : ℕ) → n ≤ m → cond t (suc n) 0 ≤ suc m
shorter true n m h = omega arith
shorter false n m h = omega arith

pub blanks_le : (s : List ℕ) → blanks s ≤ length s
unfolding blanks
blanks_le [] = omega arith
blanks_le (b ∷ s) = shorter (is_blank b) (blanks s) (length s) (blanks_le s)

longer : (t : Bool) (n m : ℕ) → n ≤ m → cond t 1 (suc n) ≤ suc m
longer true n m h = omega arith
longer false n m h = omega arith

pub size_le : (s : List ℕ) → line_size s ≤ length s
unfolding line_size
size_le [] = omega arith
size_le (b ∷ s) = longer (is_feed b) (line_size s) (length s) (size_le s)

short : (t : Bool) (b : ℕ) (d : List ℕ) (m : ℕ) → length d ≤ m → length (cond t (b ∷ d) []) ≤ suc m
short true b d m h = omega arith
short false b d m h = omega arith

pub digits_le : (s : List ℕ) → length (digits s) ≤ length s
unfolding digits
digits_le [] = omega arith
digits_le (b ∷ s) = short (is_digit b) b (digits s) (length s) (digits_le s)

pub blanks_within : (s : List ℕ) (i : ℕ) → i ≤ length s → i + blanks (drop i s) ≤ length s
blanks_within s i h = omega (arith, blanks_le (drop i s), length-drop i s)

pub size_within : (s : List ℕ) (i : ℕ) → i ≤ length s → i + line_size (drop i s) ≤ length s
size_within s i h = omega (arith, size_le (drop i s), length-drop i s)

pub digits_within : (s : List ℕ) (i : ℕ) (d : List ℕ) → d ≡ digits (drop i s) → 1 ≤ length d → i + length d ≤ length s
digits_within s i d q h = omega (arith, ap length q, digits_le (drop i s), length-drop i s)

-- the digits are that part of the text
part_of : (t : Bool) (b : ℕ) (s d : List ℕ) → take (length d) s ≡ d → take (length (cond t (b ∷ d) [])) (b ∷ s) ≡ cond t (b ∷ d) []
part_of true b s d h = ap (λ (l : List ℕ). b ∷ l) h
part_of false b s d h = refl

pub digits_part : (s : List ℕ) → take (length (digits s)) s ≡ digits s
unfolding digits
digits_part [] = refl
digits_part (b ∷ s) = part_of (is_digit b) b s (digits s) (digits_part s)
