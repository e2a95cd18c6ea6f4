-- Counting the places that are so, and the noughts of a row. Assumes nothing.
use Rattle.std.proofs.Common.{◌≡◌, ◌≢◌, ◌⊎◌, inl, inr, List, [], ◌∷◌, ℕ, zero, suc, ◌+◌, ◌-◌, ◌≤◌, ◌<◌, arith, length, get_or, set}
use Rattle.std.proofs.Math.Logic.{by_cases}
use Rattle.std.proofs.Math.Decide.{ℕ_discrete}
use Rattle.theory.specs.Counting.{Count}

-- the same places, the same count
pub count_same : (A B : ℕ → Type 0) (n k : ℕ) → ((a : ℕ) → a < n → A a → B a) → ((a : ℕ) → a < n → B a → A a) → Count A n k → Count B n k
unfolding Count
count_same A B zero k f g c = c
count_same A B (suc n) k f g (inl (x, l, c)) = inl (f n (omega arith) x, l, count_same A B n (k - 1) (λ a m. f a (omega arith)) (λ a m. g a (omega arith)) c)
count_same A B (suc n) k f g (inr (h, c)) = inr ((λ x. h (g n (omega arith) x)), count_same A B n k (λ a m. f a (omega arith)) (λ a m. g a (omega arith)) c)

-- one place fewer
pub count_less : (A B : ℕ → Type 0) (n k b : ℕ) → b < n → A b → ¬ B b → ((a : ℕ) → a < n → a ≢ b → A a → B a) → ((a : ℕ) → a < n → a ≢ b → B a → A a)
    → Count A n k → (1 ≤ k) × Count B n (k - 1)
unfolding Count
count_less A B zero k b l x y f g c = absurd (omega arith)
count_less A B (suc n) k b l x y f g c = go (ℕ_discrete b n) c
    (λ m l. count_less A B n m b l x y (λ a p. f a (omega arith)) (λ a p. g a (omega arith)))
  where
    go : Dec (b ≡ n) → (A n × (1 ≤ k) × Count A n (k - 1)) ⊎ ((¬ A n) × Count A n k) → ((m : ℕ) → b < n → Count A n m → (1 ≤ m) × Count B n (m - 1))
        → (1 ≤ k) × ((B n × (1 ≤ k - 1) × Count B n (k - 1 - 1)) ⊎ ((¬ B n) × Count B n (k - 1)))
    go (yes e) (inl (_, m, d)) r =
        (m, inr (rw e at y, count_same A B n (k - 1) (λ a p. f a (omega arith) (omega arith)) (λ a p. g a (omega arith) (omega arith)) d))
    go (yes e) (inr (h, d)) r = absurd (h (rw e at x))
    go (no e) (inl (z, m, d)) r = let s = r (k - 1) (omega arith) d in (m, inl (f n (omega arith) (λ q. e (omega arith)) z, s.0, s.1))
    go (no e) (inr (h, d)) r = let s = r k (omega arith) d in (s.0, inr ((λ z. h (g n (omega arith) (λ q. e (omega arith)) z)), s.1))

-- none
pub count_none : (A : ℕ → Type 0) (n k a : ℕ) → Count A n k → k ≡ 0 → a < n → ¬ A a
unfolding Count
count_none A zero k a c e l x = absurd (omega arith)
count_none A (suc n) k a (inl (y, m, c)) e l x = absurd (omega arith)
count_none A (suc n) k a (inr (h, c)) e l x = by_cases (ℕ_discrete a n) (λ q. h (rw q at x)) (λ q. count_none A n k a c e (omega arith) x)

-- some
pub count_some : (A : ℕ → Type 0) (n k : ℕ) → Count A n k → 1 ≤ k → (a : ℕ) × (a < n) × A a
unfolding Count
count_some A zero k c l = absurd (omega arith)
count_some A (suc n) k (inl (x, m, c)) l = (n, omega arith, x)
count_some A (suc n) k (inr (h, c)) l = let r = count_some A n k c l in (r.0, omega (arith, r.1), r.2)

-- no more than there are
pub count_most : (A : ℕ → Type 0) (n k : ℕ) → Count A n k → k ≤ n
unfolding Count
count_most A zero k c = omega arith
count_most A (suc n) k (inl (x, m, c)) = omega (arith, count_most A n (k - 1) c)
count_most A (suc n) k (inr (h, c)) = omega (arith, count_most A n k c)

-- one place more
pub count_also : (A : ℕ → Type 0) (n k : ℕ) → A n → Count A n k → Count A (suc n) (k + 1)
unfolding Count
count_also A n k x c = let e : k + 1 - 1 ≡ k = omega arith in inl (x, omega arith, rw e c)

pub count_but : (A : ℕ → Type 0) (n k : ℕ) → ¬ A n → Count A n k → Count A (suc n) k
unfolding Count
count_but A n k h c = inr (h, c)

-- ---- how many of a row are 0

unfoldable pub noughts : List ℕ → ℕ
noughts [] = 0
noughts (zero ∷ l) = suc (noughts l)
noughts (suc x ∷ l) = noughts l

pub noughts_most : (l : List ℕ) → noughts l ≤ length l
unfolding noughts
noughts_most [] = omega arith
noughts_most (zero ∷ l) = omega (arith, noughts_most l)
noughts_most (suc x ∷ l) = omega (arith, noughts_most l)

pub noughts_filled : (l : List ℕ) (i a : ℕ) → i < length l → get_or l i 0 ≡ 0 → 1 ≤ a → noughts (set l i a) + 1 ≡ noughts l
unfolding noughts
noughts_filled [] i a l e h = absurd (omega arith)
noughts_filled (zero ∷ xs) zero zero l e h = absurd (omega arith)
noughts_filled (zero ∷ xs) zero (suc a) l e h = omega arith
noughts_filled (suc x ∷ xs) zero a l e h = absurd (omega arith)
noughts_filled (zero ∷ xs) (suc i) a l e h = omega (arith, noughts_filled xs i a (omega arith) e h)
noughts_filled (suc x ∷ xs) (suc i) a l e h = noughts_filled xs i a (omega arith) e h

pub noughts_emptied : (l : List ℕ) (i : ℕ) → i < length l → 1 ≤ get_or l i 0 → noughts (set l i 0) ≡ noughts l + 1
unfolding noughts
noughts_emptied [] i l h = absurd (omega arith)
noughts_emptied (zero ∷ xs) zero l h = absurd (omega arith)
noughts_emptied (suc x ∷ xs) zero l h = omega arith
noughts_emptied (zero ∷ xs) (suc i) l h = omega (arith, noughts_emptied xs i (omega arith) h)
noughts_emptied (suc x ∷ xs) (suc i) l h = noughts_emptied xs i (omega arith) h
