-- What is read from a table after a store, and from a row of noughts; stores one behind the other. Assumes nothing.
use Rattle.std.proofs.Common.{◌≡◌, refl, sym, ap, ◌∙◌, subst, List, [], ◌∷◌, ◌++◌, ℕ, zero, suc, ◌+◌, ◌≤◌, ◌<◌, arith, length, get_or, set, take, replicate, get_or-set_same, get_or-set_other}
use Rattle.std.proofs.Math.Decide.{ℕ_discrete}
use Rattle.std.proofs.lemmas.List.Edits.{sets}
use Rattle.std.proofs.lemmas.List.{set_comm}

-- by whether the place is the one stored at
pub read_set : (P : ℕ → Type 0) (l : List ℕ) (i a x : ℕ) → i < length l → (x ≡ i → P a) → (¬ (x ≡ i) → P (get_or l x 0)) → P (get_or (set l i a) x 0)
read_set P l i a x h here there = go (ℕ_discrete x i)
  where
    go : Dec (x ≡ i) → P (get_or (set l i a) x 0)
    go (yes e) = subst P (sym (ap (λ (y : ℕ). get_or (set l i a) y 0) e ∙ get_or-set_same l i a 0 h)) (here e)
    go (no n) = subst P (sym (get_or-set_other l i x a 0 n)) (there n)

-- the same of two tables that are stored at in one place
pub read_sets : (P : ℕ → ℕ → Type 0) (k l : List ℕ) (i a b x : ℕ) → i < length k → i < length l
    → (x ≡ i → P a b) → (¬ (x ≡ i) → P (get_or k x 0) (get_or l x 0)) → P (get_or (set k i a) x 0) (get_or (set l i b) x 0)
read_sets P k l i a b x hk hl here there = read_set (λ y. P y (get_or (set l i b) x 0)) k i a x hk
    (λ e. read_set (λ y. P a y) l i b x hl here (λ n. absurd (n e)))
    (λ n. read_set (λ y. P (get_or k x 0) y) l i b x hl (λ e. absurd (n e)) there)

-- ---- rows of noughts

-- a row of noughts
pub read_noughts : (n i : ℕ) → ◌≡◌ {A = ℕ} (get_or (replicate n 0) i 0) 0
read_noughts zero i = refl
read_noughts (suc n) zero = refl
read_noughts (suc n) (suc i) = read_noughts n i

-- the front of a row of noughts
pub take_noughts : (n m : ℕ) → n ≤ m → ◌≡◌ {A = List ℕ} (take n (replicate m 0)) (replicate n 0)
take_noughts zero m l = refl
take_noughts (suc n) zero l = absurd (omega arith)
take_noughts (suc n) (suc m) l = ap (λ (row : List ℕ). 0 ∷ row) (take_noughts n m (omega arith))

-- ---- many stored one behind the other

-- first some, then others behind them
pub sets_append : {A : Type 0} (l : List A) (i : ℕ) (xs ys : List A) → sets l i (xs ++ ys) ≡ sets (sets l i xs) (i + length xs) ys
sets_append l i [] ys = let e : i ≡ i + 0 = omega arith in ap (λ (k : ℕ). sets l k ys) e
sets_append l i (x ∷ xs) ys =
    let e : suc i + length xs ≡ i + suc (length xs) = omega arith in
    sets_append (set l i x) (suc i) xs ys ∙ ap (λ (k : ℕ). sets (sets (set l i x) (suc i) xs) k ys) e

-- the last one stored first
pub sets_last : (l : List ℕ) (i : ℕ) (xs : List ℕ) (b : ℕ) → sets (set l (i + length xs) b) i xs ≡ sets l i (xs ++ b ∷ [])
sets_last l i [] b = let e : i + 0 ≡ i = omega arith in ap (λ (k : ℕ). set l k b) e
sets_last l i (x ∷ xs) b =
    let e : i + suc (length xs) ≡ suc i + length xs = omega arith in
    ap (λ (k : List ℕ). sets k (suc i) xs) (set_comm l (i + suc (length xs)) i b x (λ q. omega (arith, q)))
    ∙ ap (λ (k : ℕ). sets (set (set l i x) k b) (suc i) xs) e
    ∙ sets_last (set l i x) (suc i) xs b
