-- Finite search, the largest and the latest of finitely many numbers, induction on a measure. Assumes nothing.
use Rattle.std.proofs.Common.{◌≡◌, refl, ◌≢◌, ◌⊎◌, inl, inr, ℕ, zero, suc, ◌≤◌, ◌<◌, le_refl, arith}
use Rattle.std.proofs.Math.Logic.{by_cases}
use Rattle.std.proofs.Math.Decide.{dec_le, ℕ_discrete}
use Rattle.terms.specs.Graphs.{Among}

-- 1..n within 1..n + 1
pub within : {n j : ℕ} → Among 1 n j → Among 1 (suc n) j
within r = record { low = r.low; high = omega (arith, r.high) }

pub inner : {n j : ℕ} → Among 1 (suc n) j → j ≢ suc n → Among 1 n j
inner r h = record { low = r.low; high = omega (arith, r.high) }

pub topmost : (n : ℕ) → Among 1 (suc n) (suc n)
topmost n = record { low = omega arith; high = omega arith }

-- some j of 1..n is so, or none is
abbrev pub SomeOrNone : ℕ → (ℕ → Type 0) → Type 0
SomeOrNone n P = ((j : ℕ) × Among 1 n j × P j) ⊎ ((j : ℕ) → Among 1 n j → ¬ P j)

pub search : (n : ℕ) (P : ℕ → Type 0) → ((j : ℕ) → Dec (P j)) → SomeOrNone n P
search zero P dec = inr (λ j r. omega (arith, r.low, r.high))
search (suc n) P dec = go (dec (suc n)) (search n P dec)
  where
    go : Dec (P (suc n)) → SomeOrNone n P → SomeOrNone (suc n) P
    go (yes p) r = inl (suc n, topmost n, p)
    go (no h) (inl (j, r, p)) = inl (j, within r, p)
    go (no h) (inr g) = inr (λ j r. by_cases (ℕ_discrete j (suc n)) (λ e. rw e h) (λ e. g j (inner r e)))

-- the last u below n that is so, or none is
abbrev pub LastOrNone : ℕ → (ℕ → Type 0) → Type 0
LastOrNone n P = ((u : ℕ) × (u < n) × P u × ((v : ℕ) → u < v → v < n → ¬ P v)) ⊎ ((u : ℕ) → u < n → ¬ P u)

pub last : (n : ℕ) (P : ℕ → Type 0) → ((u : ℕ) → Dec (P u)) → LastOrNone n P
last zero P dec = inr (λ u a. omega arith)
last (suc n) P dec = go (dec n) (last n P dec)
  where
    go : Dec (P n) → LastOrNone n P → LastOrNone (suc n) P
    go (yes p) r = inl (n, omega arith, p, λ v a b. omega arith)
    go (no h) (inl (u, a, p, g)) = inl (u, omega arith, p, λ v x y. by_cases (ℕ_discrete v n) (λ e. rw e h) (λ e. g v x (omega arith)))
    go (no h) (inr g) = inr (λ u a. by_cases (ℕ_discrete u n) (λ e. rw e h) (λ e. g u (omega arith)))

-- strong induction on a measure
pub strong : (P : ℕ → Type 0) (f : ℕ → ℕ) → ((x : ℕ) → ((y : ℕ) → f y < f x → P y) → P x) → (x : ℕ) → P x
strong P f h x = go (suc (f x)) x (omega arith)
  where
    go : (b : ℕ) (x : ℕ) → f x < b → P x
    go zero x l = absurd (omega arith)
    go (suc b) x l = h x (λ y m. go b y (omega arith))

-- a largest of f 1 .. f n
abbrev Largest : ℕ → (ℕ → ℕ) → Type 0
Largest n f = (j : ℕ) × Among 1 n j × ((i : ℕ) → Among 1 n i → f i ≤ f j)

pub largest : (n : ℕ) (f : ℕ → ℕ) → 1 ≤ n → Largest n f
largest zero f l = absurd (omega arith)
largest (suc n) f l = go (dec_le 1 n) (largest n f)
  where
    go : Dec (1 ≤ n) → (1 ≤ n → Largest n f) → Largest (suc n) f
    go (no h) r = (suc n, topmost n, λ i q. let e : i ≡ suc n = omega (arith, q.low, q.high) in rw e (le_refl (f (suc n))))
    go (yes h) r = pick (r h) (dec_le (f (r h).0) (f (suc n)))
      where
        pick : (x : Largest n f) → Dec (f x.0 ≤ f (suc n)) → Largest (suc n) f
        pick (j, a, m) (yes q) =
            (suc n, topmost n, λ i r. by_cases (ℕ_discrete i (suc n)) (λ e. rw e (le_refl (f (suc n)))) (λ e. omega (arith, m i (inner r e))))
        pick (j, a, m) (no q) = (j, within a, λ i r. by_cases (ℕ_discrete i (suc n)) (λ e. rw e (omega arith)) (λ e. m i (inner r e)))

-- the latest of 0 and those of f 1 .. f n that are at most t
pub record Latest (n : ℕ) (f : ℕ → ℕ) (t u : ℕ) : Type 0 where
  pub reached : (u ≡ 0) ⊎ ((j : ℕ) × Among 1 n j × (f j ≡ u))
  pub below : u ≤ t
  pub latest : (i : ℕ) → Among 1 n i → f i ≤ t → f i ≤ u

pub latest_of : (n : ℕ) (f : ℕ → ℕ) (t : ℕ) → (u : ℕ) × Latest n f t u
latest_of zero f t = (0, record { reached = inl refl; below = omega arith; latest = λ i r c. absurd (omega (arith, r.low, r.high)) })
latest_of (suc n) f t = go (latest_of n f t)
  where
    widen : {u : ℕ} → (u ≡ 0) ⊎ ((j : ℕ) × Among 1 n j × (f j ≡ u)) → (u ≡ 0) ⊎ ((j : ℕ) × Among 1 (suc n) j × (f j ≡ u))
    widen (inl e) = inl e
    widen (inr (j, r, e)) = inr (j, within r, e)

    go : (u : ℕ) × Latest n f t u → (u : ℕ) × Latest (suc n) f t u
    go (u, r) = by_cases (dec_le (f (suc n)) t)
        (λ x. by_cases (dec_le (f (suc n)) u)
        (λ y. (u, record { reached = widen r.reached; below = r.below; latest = λ i q c. by_cases (ℕ_discrete i (suc n)) (λ e. rw e y) (λ e. r.latest i (inner q e) c) }))
        (λ y. (
          f (suc n),
          record {
            reached = inr (suc n, topmost n, refl);
            below = x;
            latest = λ i q c. by_cases (ℕ_discrete i (suc n)) (λ e. rw e (omega arith)) (λ e. omega (arith, r.latest i (inner q e) c));
          },
        )))
        (λ x. (u, record { reached = widen r.reached; below = r.below; latest = λ i q c. by_cases (ℕ_discrete i (suc n)) (λ e. absurd (x (rw e at c))) (λ e. r.latest i (inner q e) c) }))
