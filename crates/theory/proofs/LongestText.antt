-- How long the text of an accepted graph of 16-bit times is at most: 20 bytes, 18 for each subtask and 4 for each arrow; and 12,422 whatever the graph.
-- That is less than for 256 subtasks and 2,048 arrows, since numbers below 100 have fewer digits, a subtask that has a successor is not in the exit
-- line, a count of 1 to 99 predecessors has at most two digits, and the arrows need many subtasks of these two kinds. Assumes nothing.
use Rattle.std.proofs.Common.{◌≡◌, refl, sym, ap, ◌∙◌, Bool, true, false, List, [], ◌∷◌, ◌++◌, ℕ, suc, ◌+◌, ◌-◌, ◌*◌, ◌≤◌, ◌<◌, mul-le-mul_right, arith, length, get_or}
use Rattle.std.proofs.Math.Logic.{by_cases}
use Rattle.std.proofs.Math.Decide.{dec_le}
use Rattle.terms.specs.Rows.{Accepted}
use Rattle.terms.specs.Graphs.{In16Bits}
use Rattle.terms.specs.Sums.{sum}
use Rattle.terms.specs.Refusals.{graph_rows}
use Rattle.terms.specs.Arrangements.{has_arrow, predecessors_of, successors_of, is_none, lasts_of, into, sorted_by_to}
use Rattle.terms.specs.Writings.{decimal_in, decimal, further, text_of, with_count, subtask_lines, exit_numbers, stg_lines, stg_text}
use Rattle.theory.proofs.Accepted.{sound_graph}
use Rattle.theory.proofs.Sums.{sum_le, sum_eq, sum_add, sum_const, sum_scale, sum_swap, sum_mono}
use Rattle.theory.proofs.Ascending.{Has, has_passing}
use Rattle.theory.proofs.SortedArrows.{sorts_by_to}
use Rattle.theory.proofs.Decimals.{few_decimal}
use Rattle.theory.proofs.TextLengths.{size, further_none, further_more, one, passing_length, passing_few, passing_further, each_length}
use Rattle.theory.proofs.TextLengths.{times_small, lines_size, head_size, exit_size}

-- the digits of 1..n
digits : ℕ → ℕ
digits n = sum n (λ i. size (suc i))

-- 1 where a list has an element
abbrev some : List ℕ → ℕ
some [] = 0
some (x ∷ xs) = 1

-- ---- what is lost against four bytes for each number

-- "1 0" takes four bytes with its spaces
counted_none : length (further (with_count [])) ≤ 4
unfolding with_count
counted_none =
    let a : size 1 ≤ 1 = few_decimal 0 1 (omega arith) in
    let b : size 0 ≤ 1 = few_decimal 0 0 (omega arith) in
    omega (arith, further_more 1 (0 ∷ []), further_more 0 [], further_none)

counted_some : (p : ℕ) (ps : List ℕ) → length (further (with_count (p ∷ ps))) ≡ 1 + size (length (p ∷ ps)) + length (further (p ∷ ps))
unfolding with_count
counted_some p ps = further_more (length (p ∷ ps)) (p ∷ ps)

-- the count of a row takes four bytes at most, and one less where the row has 1 to 99 numbers
counted_size : (ps : List ℕ) → length ps ≤ 256 → length (further (with_count ps)) ≤ 4 + length (further ps)
counted_size [] l = omega (arith, counted_none)
counted_size (p ∷ ps) l =
    let a : size (length (p ∷ ps)) ≤ 3 = few_decimal 2 (length (p ∷ ps)) (omega (arith, l)) in
    omega (arith, counted_some p ps)

counted_lost : (ps : List ℕ) → length ps ≤ 99 → length (further (with_count ps)) + some ps ≤ 4 + length (further ps)
counted_lost [] l = omega (arith, counted_none)
counted_lost (p ∷ ps) l =
    let a : size (length (p ∷ ps)) ≤ 2 = few_decimal 1 (length (p ∷ ps)) (omega (arith, l)) in
    omega (arith, counted_some p ps)

-- a subtask stands in the line of each successor, or else in the exit line; w bytes each time
named_lost : (w : ℕ) (successors : List ℕ) → w ≤ 4 → w * length successors + w * one (is_none successors) + 4 * some successors ≤ 4 * length successors + w
named_lost w [] l = omega arith
named_lost w (x ∷ xs) l = omega (arith, mul-le-mul_right (length xs) l)

-- a row that has x has some element
some_has : (t : Bool) (l : List ℕ) (x : ℕ) → (t ≡ true → Has l x) → one t ≤ some l
unfolding Has
some_has true [] x h = absurd (h refl)
some_has true (y ∷ l) x h = omega arith
some_has false l x h = omega arith

module _ (n : ℕ) (arrows : List (List ℕ)) where
  abbrev predecessors : ℕ → List ℕ
  predecessors j = predecessors_of n arrows (suc j)

  abbrev successors : ℕ → List ℕ
  successors i = successors_of n arrows (suc i)

  -- how many subtasks have a successor, how many have a predecessor, and how many arrows there are
  followed : ℕ
  followed = sum n (λ i. some (successors i))

  following : ℕ
  following = sum n (λ j. some (predecessors j))

  arrow_count : ℕ
  arrow_count = sum n (λ j. length (predecessors j))

  -- no subtask has more predecessors than there are subtasks with a successor
  few_predecessors : (j : ℕ) → j < n → length (predecessors j) ≤ followed
  unfolding followed
  few_predecessors j l =
      let a : sum n (λ i. one (has_arrow arrows (suc i) (suc j))) ≤ sum n (λ i. some (successors i)) =
      sum_le n _ _ (λ i b. some_has (has_arrow arrows (suc i) (suc j)) (successors i) (suc j)
      (λ e. has_passing (λ k. has_arrow arrows (suc i) k) n (suc j) (record { low = omega arith; high = l }) e)) in
      omega (arith, passing_length (λ i. has_arrow arrows i (suc j)) n)

  few_arrows_lem : arrow_count ≤ followed * following
  unfolding arrow_count following
  few_arrows_lem =
      let a : sum n (λ j. length (predecessors j)) ≤ sum n (λ j. followed * some (predecessors j)) =
      sum_le n _ _ (λ j l. row (predecessors j) (few_predecessors j l)) in
      omega (arith, sum_scale n followed (λ j. some (predecessors j)))
    where
      row : (ps : List ℕ) → length ps ≤ followed → length ps ≤ followed * some ps
      row [] l = omega arith
      row (p ∷ ps) l = omega (arith, l)

  -- the same arrows by where they come from: how many, and what their names take in the lines of predecessors
  abbrev bytes : ℕ → ℕ
  bytes i = 1 + size (suc i)

  arrows_out : arrow_count ≡ sum n (λ i. length (successors i))
  unfolding arrow_count
  arrows_out =
      sum_eq n _ _ (λ j l. passing_length (λ i. has_arrow arrows i (suc j)) n)
      ∙ sum_swap n n (λ j i. one (has_arrow arrows (suc i) (suc j)))
      ∙ sum_eq n _ _ (λ i l. sym (passing_length (λ j. has_arrow arrows (suc i) j) n))

  names_out : sum n (λ j. length (further (predecessors j))) ≡ sum n (λ i. bytes i * length (successors i))
  names_out =
      sum_eq n _ _ (λ j l. passing_further (λ i. has_arrow arrows i (suc j)) n)
      ∙ sum_swap n n (λ j i. bytes i * one (has_arrow arrows (suc i) (suc j)))
      ∙ sum_eq n _ _ (λ i l. sum_scale n (bytes i) (λ j. one (has_arrow arrows (suc i) (suc j)))
      ∙ ap (λ (k : ℕ). bytes i * k) (sym (passing_length (λ j. has_arrow arrows (suc i) j) n)))

  -- and those in the exit line
  names : n ≤ 256 → sum n (λ j. length (further (predecessors j))) + length (further (lasts_of n arrows)) + 4 * followed
      ≤ 4 * arrow_count + n + digits n
  unfolding followed lasts_of digits
  names most =
      let a : sum n (λ i. bytes i * length (successors i) + bytes i * one (is_none (successors i)) + 4 * some (successors i))
      ≤ sum n (λ i. 4 * length (successors i) + bytes i) =
      sum_le n _ _ (λ i l. named_lost (bytes i) (successors i) (omega (arith, few_decimal 2 (suc i) (omega arith)))) in
      omega (
        arith,
        a,
        names_out,
        arrows_out,
        passing_further (λ i. is_none (successors_of n arrows i)) n,
        sum_add n (λ i. bytes i * length (successors i) + bytes i * one (is_none (successors i))) (λ i. 4 * some (successors i)),
        sum_add n (λ i. bytes i * length (successors i)) (λ i. bytes i * one (is_none (successors i))),
        sum_scale n 4 (λ i. some (successors i)),
        sum_add n (λ i. 4 * length (successors i)) bytes,
        sum_scale n 4 (λ i. length (successors i)),
        sum_add n (λ i. 1) (λ i. size (suc i)),
        sum_const n 1,
      )

-- ---- the whole text

module _ (times : List ℕ) (arrows : List (List ℕ)) (most : length times ≤ 256) (small : (i : ℕ) → i < length times → get_or times i 0 ≤ 65535) where
  abbrev before : ℕ → List ℕ
  before j = predecessors_of (length times) arrows j

  few_lasts : length (lasts_of (length times) arrows) ≤ length times
  unfolding lasts_of
  few_lasts = passing_few (λ i. is_none (successors_of (length times) arrows i)) (length times)

  -- where the count of the predecessors of subtask j + 1 takes so many bytes less than four
  text_lost : (lost : ℕ → ℕ)
      → ((j : ℕ) → j < length times → length (further (with_count (before (suc j)))) + lost j ≤ 4 + length (further (before (suc j))))
      → length (stg_text times arrows) + 4 * followed (length times) arrows + sum (length times) lost
      ≤ 20 + 12 * length times + 2 * digits (length times) + 4 * arrow_count (length times) arrows
  unfolding stg_text stg_lines digits
  text_lost lost h =
      let n = length times in
      let exit = exit_numbers n (lasts_of n arrows) ∷ [] in
      let counted : ℕ → ℕ = λ j. length (further (with_count (before j))) in
      let a : length (text_of (subtask_lines before 1 times ++ exit)) ≤ sum n (λ i. size (1 + i) + 7 + counted (1 + i)) + length (text_of exit) =
      lines_size before exit 1 times small in
      let b : sum n (λ i. size (1 + i) + 7 + counted (1 + i)) ≡ sum n (λ i. size (suc i) + 7 + counted (suc i)) =
      sum_eq n _ _ (λ i l. let e : 1 + i ≡ suc i = omega arith in ap (λ (k : ℕ). size k + 7 + counted k) e) in
      let c : sum n (λ j. counted (suc j) + lost j) ≤ sum n (λ j. 4 + length (further (before (suc j)))) = sum_le n _ _ h in
      omega (
        arith,
        head_size n (subtask_lines before 1 times ++ exit) most,
        a,
        b,
        c,
        exit_size n (lasts_of n arrows) most few_lasts,
        names n arrows most,
        sum_add n (λ i. size (suc i) + 7) (λ i. counted (suc i)),
        sum_add n (λ i. size (suc i)) (λ i. 7),
        sum_const n 7,
        sum_add n (λ j. counted (suc j)) lost,
        sum_add n (λ j. 4) (λ j. length (further (before (suc j)))),
        sum_const n 4,
      )

-- ---- the most

-- 1..9, 10..99 and 100..256 have 9 × 1 + 90 × 2 + 157 × 3 digits
all_digits : sum 256 (λ i. size (suc i)) ≡ 660
unfolding sum decimal decimal_in
all_digits = refl

digits_most : (n : ℕ) → n ≤ 256 → digits n ≤ 660
unfolding digits
digits_most n l = omega (arith, sum_mono n 256 (λ i. size (suc i)) l, all_digits)

-- a product is largest where its factors are equal
product_most : (x y : ℕ) → 4 * (x * y) ≤ (x + y) * (x + y)
product_most x y = by_cases (dec_le x y)
    (λ l. let e : y ≡ x + (y - x) = omega arith in rw e (more x (y - x)))
    (λ l. let e : x ≡ y + (x - y) = omega arith in rw e (less y (x - y)))
  where
    more : (x d : ℕ) → 4 * (x * (x + d)) ≤ (x + (x + d)) * (x + (x + d))
    more x d = omega arith

    less : (x d : ℕ) → 4 * ((x + d) * x) ≤ ((x + d) + x) * ((x + d) + x)
    less x d = omega arith

-- where s subtasks have a successor and m a predecessor, s × m is at least the number of arrows: many arrows lose 4 × s + m bytes
many_lose : (a s m : ℕ) → a ≤ s * m → a ≤ 2048 → 4 * a ≤ 8010 + 4 * s + m
many_lose a s m l k = by_cases (dec_le 182 (4 * s + m)) (λ h. omega arith)
    (λ h.
    let u : 4 * s + m ≤ 181 = omega arith in
    omega (arith, product_most (4 * s) m, mul-le-mul_right (4 * s + m) u))

module _ (times : List ℕ) (arrows : List (List ℕ)) (accepted : Accepted (graph_rows times arrows)) (small : In16Bits times) where
  abbrev most : length times ≤ 256
  most = (sound_graph times arrows accepted).count.high

  all_arrows : arrow_count (length times) arrows ≡ length arrows
  unfolding arrow_count sorted_by_to
  all_arrows =
      sym (each_length (predecessors_of (length times) arrows) into (length times)) ∙ (sorts_by_to times arrows accepted).as_many

  -- 12 bytes for each subtask, and the digits of its number twice; 4 for each arrow; 4 less for each subtask that has a successor
  length_lost : length (stg_text times arrows) + 4 * followed (length times) arrows ≤ 20 + 12 * length times + 2 * digits (length times) + 4 * length arrows
  length_lost =
      let n = length times in
      let a = text_lost times arrows most (times_small times small) (λ j. 0)
      (λ j l. omega (arith, counted_size (predecessors_of n arrows (suc j)) (omega (arith, passing_few (λ i. has_arrow arrows i (suc j)) n, most)))) in
      omega (arith, a, all_arrows)

  -- 20 bytes, 18 for each subtask, 4 for each arrow
  pub text_length : length (stg_text times arrows) ≤ 20 + 18 * length times + 4 * length arrows
  unfolding digits
  text_length =
      let n = length times in
      let a : sum n (λ i. size (suc i)) ≤ sum n (λ i. 3) = sum_le n _ _ (λ i l. few_decimal 2 (suc i) (omega (arith, most))) in
      omega (arith, a, sum_const n 3, length_lost)

  -- no text is longer: 100 subtasks or more that have a successor lose enough, and where they are fewer no count of predecessors has three digits
  pub text_most : length (stg_text times arrows) ≤ 12422
  unfolding following
  text_most =
      let n = length times in
      let few : length arrows ≤ 2048 = (sound_graph times arrows accepted).few in
      by_cases (dec_le 100 (followed n arrows))
      (λ h. omega (arith, h, few, most, digits_most n most, length_lost))
      (λ h.
      let a = text_lost times arrows most (times_small times small) (λ j. some (predecessors_of n arrows (suc j)))
      (λ j l. counted_lost (predecessors_of n arrows (suc j)) (omega (arith, h, few_predecessors n arrows j l))) in
      let b = many_lose (arrow_count n arrows) (followed n arrows) (following n arrows) (few_arrows_lem n arrows) (omega (arith, few, all_arrows)) in
      omega (arith, a, b, most, digits_most n most))
