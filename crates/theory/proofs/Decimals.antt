-- The decimal digits of a number: at least one, as many as its size asks, not led by 0; and their value is the number. Assumes nothing.
use Rattle.std.proofs.Common.{◌≡◌, refl, sym, ap, ◌∙◌, Bool, true, cond, ◌&&◌, List, [], ◌∷◌, ◌++◌, ℕ, zero, suc, ◌+◌, ◌-◌, ◌*◌, ◌/◌, ◌%◌, ◌^◌, ◌≤◌, ◌<◌, arith, pow-suc, ltb, length, get_or, length-append, le-leb, lt-ltb, le-ltb}
use Rattle.std.proofs.Math.Logic.{by_cases}
use Rattle.std.proofs.Math.Bool.{and_assoc}
use Rattle.std.proofs.Math.Nat.{one-le-pow}
use Rattle.std.proofs.Math.Decide.{dec_lt}
use Rattle.terms.specs.Texts.{all_pass, is_digit, is_field, value_from, value}
use Rattle.terms.specs.Writings.{decimal_in, decimal}
use Rattle.theory.proofs.Search.{strong}

-- ---- one digit, or one digit behind those of the tenth part

-- how far the digits are followed does not matter, if far enough
far_enough : (k m n : ℕ) → n ≤ k → n ≤ m → decimal_in k n ≡ decimal_in m n
unfolding decimal_in
far_enough zero zero n a b = refl
far_enough zero (suc m) n a b = rw (lt-ltb n 10 (omega arith)) refl
far_enough (suc k) zero n a b = rw (lt-ltb n 10 (omega arith)) refl
far_enough (suc k) (suc m) n a b =
    ap (λ (front : List ℕ). cond (ltb n 10) ((48 + n) ∷ []) (front ++ ((48 + n % 10) ∷ []))) (far_enough k m (n / 10) (omega arith) (omega arith))

pub decimal_digit : (n : ℕ) → n < 10 → decimal n ≡ (48 + n) ∷ []
unfolding decimal decimal_in
decimal_digit zero l = refl
decimal_digit (suc k) l = rw (lt-ltb (suc k) 10 l) refl

pub decimal_step : (n : ℕ) → 10 ≤ n → decimal n ≡ decimal (n / 10) ++ ((48 + n % 10) ∷ [])
unfolding decimal decimal_in
decimal_step zero l = absurd (omega arith)
decimal_step (suc k) l = rw (le-ltb (suc k) 10 l)
    (ap (λ (front : List ℕ). front ++ ((48 + suc k % 10) ∷ [])) (far_enough k (suc k / 10) (suc k / 10) (omega arith) (omega arith)))

-- what holds of digits, and goes on from the tenth part to the number, holds of every number
by_digits : (P : ℕ → Type 0) → ((n : ℕ) → n < 10 → P n) → ((n : ℕ) → 10 ≤ n → P (n / 10) → P n) → (n : ℕ) → P n
by_digits P digit go = strong P (λ n. n) (λ n h. by_cases (dec_lt n 10) (digit n) (λ l. go n (omega arith) (h (n / 10) (omega arith))))

-- ---- their value

value_last : (m : ℕ) (xs : List ℕ) (b : ℕ) → value_from m (xs ++ (b ∷ [])) ≡ value_from m xs * 10 + (b - 48)
unfolding value_from
value_last m [] b = refl
value_last m (x ∷ xs) b = value_last (m * 10 + (x - 48)) xs b

pub value_decimal : (n : ℕ) → value (decimal n) ≡ n
unfolding value_from
value_decimal = by_digits (λ n. value (decimal n) ≡ n)
    (λ n l. rw (decimal_digit n l) (omega arith))
    (λ n l e. rw (decimal_step n l) (omega (arith, value_last 0 (decimal (n / 10)) (48 + n % 10), e)))

-- ---- digits they are

pub all_append : (f : ℕ → Bool) (xs ys : List ℕ) → all_pass f (xs ++ ys) ≡ (all_pass f xs && all_pass f ys)
unfolding all_pass
all_append f [] ys = refl
all_append f (x ∷ xs) ys = ap (λ (b : Bool). f x && b) (all_append f xs ys) ∙ sym (and_assoc (f x) (all_pass f xs) (all_pass f ys))

is_digit_lem : (d : ℕ) → d < 10 → is_digit (48 + d) ≡ true
is_digit_lem d h = rw (le-leb 48 (48 + d) (omega arith), le-leb (48 + d) 57 (omega arith))

pub digits_decimal : (n : ℕ) → all_pass is_digit (decimal n) ≡ true
unfolding all_pass
digits_decimal = by_digits (λ n. all_pass is_digit (decimal n) ≡ true)
    (λ n l. rw (decimal_digit n l, is_digit_lem n l))
    (λ n l e. rw (decimal_step n l, all_append is_digit (decimal (n / 10)) ((48 + n % 10) ∷ []), e, is_digit_lem (n % 10) (omega arith)))

-- ---- how many

-- one more than those of the tenth part
digits_more : (n : ℕ) → 10 ≤ n → length (decimal n) ≡ suc (length (decimal (n / 10)))
digits_more n l = rw (decimal_step n l) (omega (arith, length-append (decimal (n / 10)) ((48 + n % 10) ∷ [])))

pub some_decimal : (n : ℕ) → 1 ≤ length (decimal n)
some_decimal n = by_cases (dec_lt n 10) (λ l. rw (decimal_digit n l) (omega arith)) (λ l. omega (arith, digits_more n (omega arith)))

-- at most m + 1 below 10 ^ (m + 1), at least m + 1 from 10 ^ m on
pub few_decimal : (m n : ℕ) → n < 10 ^ suc m → length (decimal n) ≤ suc m
few_decimal zero n b = rw (decimal_digit n b) (omega arith)
few_decimal (suc m) n b = by_cases (dec_lt n 10)
    (λ l. rw (decimal_digit n l) (omega arith))
    (λ l. omega (arith, digits_more n (omega arith), few_decimal m (n / 10) (omega (arith, pow-suc 10 (suc m), b))))

many_decimal : (m n : ℕ) → 10 ^ m ≤ n → suc m ≤ length (decimal n)
many_decimal zero n b = some_decimal n
many_decimal (suc m) n b =
    let p : 10 * 10 ^ m ≤ n = omega (arith, pow-suc 10 m, b) in
    omega (arith, digits_more n (omega (arith, p, one-le-pow m 10 (omega arith))), many_decimal m (n / 10) (omega (arith, p)))

pub decimal_size : (m n : ℕ) → 10 ^ m ≤ n → n < 10 ^ suc m → length (decimal n) ≡ suc m
decimal_size m n low high = omega (arith, few_decimal m n high, many_decimal m n low)

-- a number below 10 ^ 8 is a proper field
pub field_decimal : (n : ℕ) → n < 100000000 → is_field (decimal n) ≡ true
field_decimal n l = rw (le-leb 1 (length (decimal n)) (some_decimal n), le-leb (length (decimal n)) 8 (few_decimal 7 n l), digits_decimal n)

-- ---- not led by 0

first_append : (l m : List ℕ) → 1 ≤ length l → get_or (l ++ m) 0 0 ≡ get_or l 0 0
first_append [] m h = absurd (omega arith)
first_append (x ∷ l) m h = refl

pub led_decimal : (n : ℕ) → 1 ≤ n → 49 ≤ get_or (decimal n) 0 0
led_decimal = by_digits (λ n. 1 ≤ n → 49 ≤ get_or (decimal n) 0 0)
    (λ n l b. rw (decimal_digit n l) (omega arith))
    (λ n l h b. rw (decimal_step n l, first_append (decimal (n / 10)) ((48 + n % 10) ∷ []) (some_decimal (n / 10))) (h (omega arith)))
