-- Lines of numbers, written and read again: the fields of a line, its numbers, the lines of a text. Assumes nothing.
use Rattle.std.proofs.Common.{◌≡◌, refl, ap, ap₂, ◌∙◌, inl, inr, ⊎_elim, Bool, true, false, cond, not, ◌&&◌, ◌||◌, List, [], ◌∷◌, ◌++◌, map, ℕ, ◌≤◌, ◌<◌, arith, eqb, leb, length, ne_eqb, leb-true}
use Rattle.std.proofs.lemmas.Bool.{false≢true}
use Rattle.terms.specs.Texts.{all_pass, begins, onto, is_blank, is_digit, is_field, lines, fields, value, proper, numbers}
use Rattle.terms.specs.Writings.{decimal, further, line, text_of}
use Rattle.theory.proofs.Ascending.{Has}
use Rattle.theory.proofs.Decimals.{all_append, value_decimal, digits_decimal, some_decimal, field_decimal}

both : (s t : Bool) → (s && t) ≡ true → (s ≡ true) × (t ≡ true)
both true t e = (refl, e)
both false t e = absurd (false≢true e)

-- ---- fields

-- a byte of a field
abbrev is_inner : ℕ → Bool
is_inner b = not (is_blank b)

digit_inner : (b : ℕ) → is_digit b ≡ true → is_blank b ≡ false
digit_inner b e =
    let h : 48 ≤ b = leb-true 48 b (both (leb 48 b) (leb b 57) e).0 in
    rw (ne_eqb b 32 (λ q. omega arith), ne_eqb b 9 (λ q. omega arith))

fields_inner : (b : ℕ) (l : List ℕ) → is_blank b ≡ false → fields (b ∷ l) ≡ cond (begins is_inner l) (onto b (fields l)) ((b ∷ []) ∷ fields l)
unfolding fields
fields_inner b l e = rw e

-- a run of digits, where no field's byte stands behind it, is a field
fields_run : (b : ℕ) (d l : List ℕ) → all_pass is_digit (b ∷ d) ≡ true → begins is_inner l ≡ false → fields ((b ∷ d) ++ l) ≡ (b ∷ d) ∷ fields l
unfolding all_pass
fields_run b [] l e f = let h = both (is_digit b) true e in rw (fields_inner b l (digit_inner b h.0), f)
fields_run b (c ∷ d) l e f =
    let h = both (is_digit b) (is_digit c && all_pass is_digit d) e in
    let k = both (is_digit c) (all_pass is_digit d) h.1 in
    rw (fields_inner b ((c ∷ d) ++ l) (digit_inner b h.0), digit_inner c k.0, fields_run c d l h.1 f)

fields_word : (w l : List ℕ) → 1 ≤ length w → all_pass is_digit w ≡ true → begins is_inner l ≡ false → fields (w ++ l) ≡ w ∷ fields l
fields_word [] l s e f = absurd (omega arith)
fields_word (b ∷ d) l s e f = fields_run b d l e f

fields_space : (l : List ℕ) → fields (32 ∷ l) ≡ fields l
unfolding fields
fields_space l = refl

further_apart : (xs : List ℕ) → begins is_inner (further xs) ≡ false
unfolding further
further_apart [] = refl
further_apart (x ∷ xs) = refl

fields_number : (x : ℕ) (xs : List ℕ) → fields (further xs) ≡ map decimal xs → fields (decimal x ++ further xs) ≡ decimal x ∷ map decimal xs
fields_number x xs e =
    fields_word (decimal x) (further xs) (some_decimal x) (digits_decimal x) (further_apart xs) ∙ ap (λ (ws : List (List ℕ)). decimal x ∷ ws) e

fields_further : (xs : List ℕ) → fields (further xs) ≡ map decimal xs
unfolding further fields
fields_further [] = refl
fields_further (x ∷ xs) = fields_space (decimal x ++ further xs) ∙ fields_number x xs (fields_further xs)

fields_line : (xs : List ℕ) → fields (line xs) ≡ map decimal xs
unfolding line fields
fields_line [] = refl
fields_line (x ∷ xs) = fields_number x xs (fields_further xs)

-- ---- the numbers of a line

values : (xs : List ℕ) → map value (map decimal xs) ≡ xs
values [] = refl
values (x ∷ xs) = ap₂ (λ (y : ℕ) (ys : List ℕ). y ∷ ys) (value_decimal x) (values xs)

pub numbers_line : (xs : List ℕ) → numbers (line xs) ≡ xs
unfolding numbers
numbers_line xs = rw (fields_line xs) (values xs)

-- each number of a line has at most eight digits, as a field has
pub record EightDigits (xs : List ℕ) : Type 0 where
  pub small : (x : ℕ) → Has xs x → x < 100000000

pub eight_none : EightDigits []
unfolding Has
eight_none = record { small = λ x h. absurd h }

pub eight_cons : {x : ℕ} {xs : List ℕ} → x < 100000000 → EightDigits xs → EightDigits (x ∷ xs)
unfolding Has
eight_cons l h = record { small = λ y k. ⊎_elim (λ e. omega (arith, e, l)) (h.small y) k }

proper_fields : (xs : List ℕ) → EightDigits xs → all_pass is_field (map decimal xs) ≡ true
unfolding all_pass Has
proper_fields [] h = refl
proper_fields (x ∷ xs) h = rw (field_decimal x (h.small x (inl refl))) (proper_fields xs (record { small = λ y k. h.small y (inr k) }))

pub proper_line : (xs : List ℕ) → EightDigits xs → proper (line xs) ≡ true
unfolding proper
proper_line xs h = rw (fields_line xs) (proper_fields xs h)

-- ---- lines

-- neither LF nor CR
unfoldable is_plain : ℕ → Bool
is_plain b = not (eqb b 10 || eqb b 13)

lines_plain : (b : ℕ) (s l : List ℕ) (ls : List (List ℕ)) → is_plain b ≡ true → lines s ≡ l ∷ ls → lines (b ∷ s) ≡ (b ∷ l) ∷ ls
unfolding lines is_plain
lines_plain b s l ls e q = split (eqb b 10) (eqb b 13) refl refl
  where
    split : (t u : Bool) → eqb b 10 ≡ t → eqb b 13 ≡ u → lines (b ∷ s) ≡ (b ∷ l) ∷ ls
    split true u f g = let z : false ≡ true = rw f at e in absurd (false≢true z)
    split false true f g = let z : false ≡ true = rw (f, g) at e in absurd (false≢true z)
    split false false f g = rw (f, g, q)

lines_next : (l s : List ℕ) → all_pass is_plain l ≡ true → lines (l ++ 10 ∷ s) ≡ l ∷ lines s
unfolding lines all_pass
lines_next [] s h = refl
lines_next (b ∷ l) s h = let k = both (is_plain b) (all_pass is_plain l) h in lines_plain b (l ++ 10 ∷ s) l (lines s) k.0 (lines_next l s k.1)

digit_plain : (b : ℕ) → is_digit b ≡ true → is_plain b ≡ true
unfolding is_plain
digit_plain b e =
    let h : 48 ≤ b = leb-true 48 b (both (leb 48 b) (leb b 57) e).0 in
    rw (ne_eqb b 10 (λ q. omega arith), ne_eqb b 13 (λ q. omega arith))

digits_plain : (w : List ℕ) → all_pass is_digit w ≡ true → all_pass is_plain w ≡ true
unfolding all_pass
digits_plain [] e = refl
digits_plain (b ∷ w) e = let h = both (is_digit b) (all_pass is_digit w) e in rw (digit_plain b h.0) (digits_plain w h.1)

number_plain : (x : ℕ) (l : List ℕ) → all_pass is_plain l ≡ true → all_pass is_plain (decimal x ++ l) ≡ true
number_plain x l e = all_append is_plain (decimal x) l ∙ rw (digits_plain (decimal x) (digits_decimal x), e)

further_plain : (xs : List ℕ) → all_pass is_plain (further xs) ≡ true
unfolding further all_pass is_plain
further_plain [] = refl
further_plain (x ∷ xs) = number_plain x (further xs) (further_plain xs)

line_plain : (xs : List ℕ) → all_pass is_plain (line xs) ≡ true
unfolding line all_pass
line_plain [] = refl
line_plain (x ∷ xs) = number_plain x (further xs) (further_plain xs)

-- lines that were written read back as they were
pub lines_text : (ls : List (List ℕ)) → lines (text_of ls) ≡ map line ls
unfolding text_of lines
lines_text [] = refl
lines_text (l ∷ ls) = lines_next (line l) (text_of ls) (line_plain l) ∙ ap (λ (ms : List (List ℕ)). line l ∷ ms) (lines_text ls)
