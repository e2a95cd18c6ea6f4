-- The lengths of lines, and of the text of a graph, part by part and as sums over its subtasks. Assumes nothing.
use Rattle.std.proofs.Common.{◌≡◌, refl, ap, Bool, true, false, cond, List, [], ◌∷◌, ◌++◌, map, ℕ, zero, suc, ◌+◌, ◌-◌, ◌*◌, ◌≤◌, ◌<◌, arith, length, get_or, length-append}
use Rattle.terms.specs.Graphs.{time_of, In16Bits}
use Rattle.terms.specs.Sums.{sum}
use Rattle.terms.specs.Arrangements.{passing, for_each}
use Rattle.terms.specs.Writings.{decimal, further, line, text_of, with_count, subtask_lines, exit_numbers}
use Rattle.theory.proofs.Sums.{sum_le, sum_eq, sum_const, sum_first}
use Rattle.theory.proofs.Decimals.{few_decimal}

-- ---- one line

-- how many digits
abbrev pub size : ℕ → ℕ
size x = length (decimal x)

pub further_none : length (further []) ≡ 0
unfolding further
further_none = refl

pub further_more : (x : ℕ) (xs : List ℕ) → length (further (x ∷ xs)) ≡ 1 + size x + length (further xs)
unfolding further
further_more x xs = omega (arith, length-append (decimal x) (further xs))

further_append : (xs ys : List ℕ) → length (further (xs ++ ys)) ≡ length (further xs) + length (further ys)
further_append [] ys = omega (arith, further_none)
further_append (x ∷ xs) ys = omega (arith, further_more x (xs ++ ys), further_more x xs, further_append xs ys)

line_size_lem : (x : ℕ) (xs : List ℕ) → length (line (x ∷ xs)) ≡ size x + length (further xs)
unfolding line
line_size_lem x xs = length-append (decimal x) (further xs)

text_none : length (text_of []) ≡ 0
unfolding text_of
text_none = refl

text_more : (l : List ℕ) (ls : List (List ℕ)) → length (text_of (l ∷ ls)) ≡ length (line l) + 1 + length (text_of ls)
unfolding text_of
text_more l ls = omega (arith, length-append (line l) (10 ∷ text_of ls))

-- ---- rows as sums

abbrev pub one : Bool → ℕ
one t = cond t 1 0

pub passing_length : (test : ℕ → Bool) (n : ℕ) → length (passing test n) ≡ sum n (λ i. one (test (suc i)))
unfolding passing sum
passing_length test zero = refl
passing_length test (suc n) =
    omega (arith, length-append (passing test n) (cond (test (suc n)) (suc n ∷ []) []), passing_length test n, last (test (suc n)))
  where
    last : (t : Bool) → length (cond t (suc n ∷ []) []) ≡ one t
    last true = refl
    last false = refl

pub passing_few : (test : ℕ → Bool) (n : ℕ) → length (passing test n) ≤ n
passing_few test n =
    let a : sum n (λ i. one (test (suc i))) ≤ sum n (λ i. 1) = sum_le n _ _ (λ i l. most (test (suc i))) in
    omega (arith, passing_length test n, sum_const n 1)
  where
    most : (t : Bool) → one t ≤ 1
    most true = omega arith
    most false = omega arith

pub passing_further : (test : ℕ → Bool) (n : ℕ) → length (further (passing test n)) ≡ sum n (λ i. (1 + size (suc i)) * one (test (suc i)))
unfolding passing sum
passing_further test zero = further_none
passing_further test (suc n) =
    omega (arith, further_append (passing test n) (cond (test (suc n)) (suc n ∷ []) []), passing_further test n, last (test (suc n)))
  where
    last : (t : Bool) → length (further (cond t (suc n ∷ []) [])) ≡ (1 + size (suc n)) * one t
    last true = omega (arith, further_more (suc n) [], further_none)
    last false = omega (arith, further_none)

length-map : (f : ℕ → List ℕ) (l : List ℕ) → length (map f l) ≡ length l
length-map f [] = refl
length-map f (x ∷ l) = ap suc (length-map f l)

pub each_length : (row : ℕ → List ℕ) (arrow : ℕ → ℕ → List ℕ) (n : ℕ) → length (for_each row arrow n) ≡ sum n (λ i. length (row (suc i)))
unfolding for_each sum
each_length row arrow zero = refl
each_length row arrow (suc n) = omega (
  arith,
  length-append (for_each row arrow n) (map (λ i. arrow i (suc n)) (row (suc n))),
  each_length row arrow n,
  length-map (λ i. arrow i (suc n)) (row (suc n)),
)

-- ---- the subtasks' lines

-- the times row, by places from 0 on
pub times_small : (times : List ℕ) → In16Bits times → (i : ℕ) → i < length times → get_or times i 0 ≤ 65535
unfolding time_of
times_small times small i l = let e : suc i - 1 ≡ i = omega arith in rw e at (small (suc i) (record { low = omega arith; high = l }))

-- number, time of at most five digits, the space between and the line's end; and the predecessors with their count
pub lines_size : (row : ℕ → List ℕ) (later : List (List ℕ)) (j : ℕ) (ts : List ℕ) → ((i : ℕ) → i < length ts → get_or ts i 0 ≤ 65535)
    → length (text_of (subtask_lines row j ts ++ later))
    ≤ sum (length ts) (λ i. size (j + i) + 7 + length (further (with_count (row (j + i))))) + length (text_of later)
unfolding subtask_lines sum
lines_size row later j [] h = omega arith
lines_size row later j (t ∷ ts) h =
    let f : ℕ → ℕ = λ i. size i + 7 + length (further (with_count (row i))) in
    let a = lines_size row later (j + 1) ts (λ i b. h (suc i) (omega (arith, b))) in
    let b : sum (length ts) (λ i. f (j + 1 + i)) ≡ sum (length ts) (λ i. f (j + suc i)) =
    sum_eq (length ts) _ _ (λ i l. let e : j + 1 + i ≡ j + suc i = omega arith in ap f e) in
    let c : f (j + 0) ≡ f j = let e : j + 0 ≡ j = omega arith in ap f e in
    let d : size t ≤ 5 = few_decimal 4 t (omega (arith, h 0 (omega arith))) in
    omega (
      arith,
      text_more (j ∷ t ∷ with_count (row j)) (subtask_lines row (j + 1) ts ++ later),
      line_size_lem j (t ∷ with_count (row j)),
      further_more t (with_count (row j)),
      sum_first (length ts) (λ i. f (j + i)),
    )

-- ---- the lines around them, of at most 256 subtasks

pub head_size : (n : ℕ) (later : List (List ℕ)) → n ≤ 256 → length (text_of ((n ∷ []) ∷ (0 ∷ 0 ∷ 0 ∷ []) ∷ later)) ≤ 10 + length (text_of later)
head_size n later most =
    let a : size n ≤ 3 = few_decimal 2 n (omega arith) in
    let b : size 0 ≤ 1 = few_decimal 0 0 (omega arith) in
    omega (
      arith,
      text_more (n ∷ []) ((0 ∷ 0 ∷ 0 ∷ []) ∷ later),
      line_size_lem n [],
      text_more (0 ∷ 0 ∷ 0 ∷ []) later,
      line_size_lem 0 (0 ∷ 0 ∷ []),
      further_more 0 (0 ∷ []),
      further_more 0 [],
      further_none,
    )

pub exit_size : (n : ℕ) (lasts : List ℕ) → n ≤ 256 → length lasts ≤ n → length (text_of (exit_numbers n lasts ∷ [])) ≤ 10 + length (further lasts)
unfolding exit_numbers
exit_size n lasts most few =
    let a : size (n + 1) ≤ 3 = few_decimal 2 (n + 1) (omega arith) in
    let b : size 0 ≤ 1 = few_decimal 0 0 (omega arith) in
    let c : size (length lasts) ≤ 3 = few_decimal 2 (length lasts) (omega arith) in
    omega (
      arith,
      text_more ((n + 1) ∷ 0 ∷ length lasts ∷ lasts) [],
      text_none,
      line_size_lem (n + 1) (0 ∷ length lasts ∷ lasts),
      further_more 0 (length lasts ∷ lasts),
      further_more (length lasts) lasts,
    )
