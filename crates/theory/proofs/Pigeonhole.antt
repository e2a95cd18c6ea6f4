-- The pigeonhole: more places than values hold some value twice, and n places with n different values miss none. Assumes nothing.
use Rattle.std.proofs.Common.{◌≡◌, refl, sym, ◌∙◌, ◌≢◌, inl, inr, ⊎_elim, ℕ, suc, ◌≤◌, ◌<◌, arith}
use Rattle.std.proofs.Math.Logic.{by_cases}
use Rattle.std.proofs.Math.Decide.{dec_lt, ℕ_discrete}
use Rattle.terms.specs.Graphs.{Among}
use Rattle.terms.specs.Sums.{sum}
use Rattle.theory.specs.Counting.{bit}
use Rattle.theory.proofs.Sums.{sum_le, sum_const, sum_swap, bit_yes, bit_no, bit_le, bit_one, sum_lone, sum_term₁}
use Rattle.theory.proofs.Search.{LastOrNone, last}

-- more places than values: two places hold the same
pub repeats : (n : ℕ) (f : ℕ → ℕ) → ((x : ℕ) → x < suc n → Among 1 n (f x)) → (x : ℕ) × (y : ℕ) × (x < y) × (y < suc n) × (f x ≡ f y)
repeats n f range = outer (last (suc n) Early early)
  where
    Early : ℕ → Type 0
    Early y = (x : ℕ) × (x < y) × (f x ≡ f y)

    early : (y : ℕ) → Dec (Early y)
    early y = ⊎_elim (λ x. yes (x.0, x.1, x.2)) (λ h. no (λ x. h x.0 x.1 x.2)) (last y (λ x. f x ≡ f y) (λ x. ℕ_discrete (f x) (f y)))

    hit : ℕ → ℕ → ℕ
    hit x k = bit (ℕ_discrete (f x) k)

    outer : LastOrNone (suc n) Early → (x : ℕ) × (y : ℕ) × (x < y) × (y < suc n) × (f x ≡ f y)
    outer (inl (y, l, e, h)) = (e.0, y, e.1, l, e.2)
    outer (inr h) =
        let p : sum (suc n) (λ x. 1) ≤ sum (suc n) (λ x. sum n (λ i. hit x (suc i))) = sum_le (suc n) _ _ each in
        let q = sum_swap (suc n) n (λ x i. hit x (suc i)) in
        let r : sum n (λ i. sum (suc n) (λ x. hit x (suc i))) ≤ sum n (λ i. 1) = sum_le n _ _ (λ i l. most (suc i)) in
        absurd (omega (arith, sum_const (suc n) 1, sum_const n 1))
      where
        each : (x : ℕ) → x < suc n → 1 ≤ sum n (λ i. hit x (suc i))
        each x l =
            let p = sum_term₁ n (λ k. hit x k) (f x) (range x l) in
            omega (arith, bit_yes (ℕ_discrete (f x) (f x)) refl)

        same : (x y : ℕ) → x < suc n → y < suc n → x ≢ y → f x ≡ f y → ⊥
        same x y l m d e = by_cases (dec_lt x y) (λ c. h y m (x, c, e)) (λ c. h x l (y, omega arith, sym e))

        most : (k : ℕ) → sum (suc n) (λ x. hit x k) ≤ 1
        most k = sum_lone (suc n) (λ x. hit x k) (λ x. bit_le (ℕ_discrete (f x) k))
            (λ x y l m d e. bit_no (ℕ_discrete (f y) k) (λ q. same x y l m d (bit_one (ℕ_discrete (f x) k) e ∙ sym q)))

-- n places with n different values of 1..n hold each of 1..n
pub onto : (n : ℕ) (f : ℕ → ℕ) → ((x : ℕ) → x < n → Among 1 n (f x)) → ((x y : ℕ) → x < y → y < n → f x ≢ f y)
    → (j : ℕ) → Among 1 n j → (x : ℕ) × (x < n) × (f x ≡ j)
onto n f range once j r = go (last n (λ x. f x ≡ j) (λ x. ℕ_discrete (f x) j))
  where
    -- j in one place more
    extra : (x : ℕ) → Dec (x ≡ n) → ℕ
    extra x (yes e) = j
    extra x (no h) = f x

    extra_range : (x : ℕ) (d : Dec (x ≡ n)) → x < suc n → Among 1 n (extra x d)
    extra_range x (yes e) l = r
    extra_range x (no h) l = range x (omega arith)

    extra_once : (x y : ℕ) (d : Dec (x ≡ n)) (e : Dec (y ≡ n)) → x < y → y < suc n → ((v : ℕ) → v < n → ¬ (f v ≡ j)) → extra x d ≢ extra y e
    extra_once x y (yes d) e l m h q = omega arith
    extra_once x y (no d) (yes e) l m h q = h x (omega arith) q
    extra_once x y (no d) (no e) l m h q = once x y l (omega arith) q

    go : LastOrNone n (λ x. f x ≡ j) → (x : ℕ) × (x < n) × (f x ≡ j)
    go (inl (x, l, e, h)) = (x, l, e)
    go (inr h) =
        let q = repeats n (λ x. extra x (ℕ_discrete x n)) (λ x l. extra_range x (ℕ_discrete x n) l) in
        absurd (extra_once q.0 q.1 (ℕ_discrete q.0 n) (ℕ_discrete q.1 n) q.2 q.3 h q.4)
