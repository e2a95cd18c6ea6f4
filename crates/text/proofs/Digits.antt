-- The digits of a field, one by one: what is read and what is left make up the same number, which stays small. Assumes nothing.
use Rattle.std.proofs.Common.{◌≡◌, refl, ap, ◌∙◌, ℕ, zero, suc, ◌+◌, ◌-◌, ◌*◌, ◌^◌, ◌≤◌, ◌<◌, List, [], ◌∷◌, Bool, true, false, ◌&&◌, leb, length, take}
use Rattle.std.proofs.Common.{drop, get_or, arith, pow-suc, add-one, drop_of_length-le, drop-cons, get_or-drop, leb-true}
use Rattle.std.proofs.lemmas.List.{take_rest}
use Rattle.terms.specs.Texts.{all_pass, is_digit, value_from, value}

pub false_true : {P : Type 0} → false ≡ true → P
false_true e = let z : ◌≡◌ {A = ℕ} 0 1 = cc in absurd (omega arith)

pub both : (s t : Bool) → (s && t) ≡ true → (s ≡ true) × (t ≡ true)
both true t e = (refl, e)
both false t e = false_true e

pub digit_bounds : (b : ℕ) → is_digit b ≡ true → (48 ≤ b) × (b ≤ 57)
digit_bounds b e = let h = both (leb 48 b) (leb b 57) e in (leb-true 48 b h.0, leb-true b 57 h.1)

-- every byte of a field is a digit
pub digit_at : (s : List ℕ) (i : ℕ) → all_pass is_digit s ≡ true → i < length s → (48 ≤ get_or s i 0) × (get_or s i 0 ≤ 57)
unfolding all_pass
digit_at [] i e h = absurd (omega arith)
digit_at (b ∷ s) zero e h = digit_bounds b (both (is_digit b) (all_pass is_digit s) e).0
digit_at (b ∷ s) (suc i) e h = digit_at s i (both (is_digit b) (all_pass is_digit s) e).1 (omega arith)

-- the digits behind the first
pub behind_first : (s : List ℕ) (i : ℕ) → get_or (take (length s - 1) (drop 1 s)) i 0 ≡ get_or s (i + 1) 0
behind_first s i = rw (take_rest s 1, get_or-drop 1 s i 0) (let e : 1 + i ≡ i + 1 = omega arith in ap (λ (k : ℕ). get_or s k 0) e)

-- ---- the number of a field, digit by digit

value_go : (n : ℕ) (s : List ℕ) (i : ℕ) → i < length s → value_from (n * 10 + (get_or s i 0 - 48)) (drop (suc i) s) ≡ value_from n (drop i s)
unfolding value_from
value_go n s i h = rw (drop-cons s i 0 h)

more : (n d i : ℕ) → n < 10 ^ i → d < 10 → n * 10 + d < 10 ^ (suc i)
more n d i h k = rw pow-suc (omega arith)

-- the first i digits make up n
pub record Made (s : List ℕ) (n i : ℕ) : Type 0 where
  pub begun : 1 ≤ i
  pub inside : i ≤ length s
  pub small : n < 10 ^ i
  pub same : value_from n (drop i s) ≡ value s

pub made_all : (s : List ℕ) (n i : ℕ) → Made s n i → length s ≤ i → n ≡ value s
unfolding value_from
made_all s n i m h = rw (drop_of_length-le s h) at m.same

module _ (s : List ℕ) (e : all_pass is_digit s ≡ true) (d : ℕ) where
  pub made_first : 1 ≤ length s → d ≡ get_or s 0 0 - 48 → Made s d 1
  made_first h q =
      let z : d ≡ 0 * 10 + (get_or s 0 0 - 48) = omega arith in
      record { begun = omega arith; inside = h; small = omega (arith, digit_at s 0 e h); same = rw z (value_go 0 s 0 h) }

  pub made_more : (n i : ℕ) → Made s n i → i < length s → d ≡ get_or s i 0 - 48 → Made s (n * 10 + d) (i + 1)
  made_more n i m h q =
      rw add-one
      (record { begun = omega arith; inside = h; small = more n d i m.small (omega (arith, digit_at s i e h)); same = rw q (value_go n s i h) ∙ m.same })
