-- Finite sums over i < n, and yes and no as 1 and 0. Assumes nothing.
use Rattle.std.proofs.Common.{◌≡◌, refl, sym, ap, ◌≢◌, ℕ, zero, suc, ◌+◌, ◌*◌, ◌≤◌, ◌<◌, add-zero, add-suc, le_refl, zero-mul, mul-zero, arith}
use Rattle.std.proofs.Math.Logic.{by_cases}
use Rattle.std.proofs.Math.Decide.{dec_le, ℕ_discrete, le_ind}
use Rattle.terms.specs.Sums.{sum}
use Rattle.terms.specs.Graphs.{Among}
use Rattle.theory.specs.Counting.{bit}

pub sum_zero : (n : ℕ) (f : ℕ → ℕ) → ((i : ℕ) → i < n → f i ≡ 0) → sum n f ≡ 0
unfolding sum
sum_zero zero f h = refl
sum_zero (suc n) f h = let a : sum n f ≡ 0 = sum_zero n f (λ i l. h i (omega arith)) in omega (arith, h n (omega arith))

pub sum_le : (n : ℕ) (f g : ℕ → ℕ) → ((i : ℕ) → i < n → f i ≤ g i) → sum n f ≤ sum n g
unfolding sum
sum_le zero f g h = omega arith
sum_le (suc n) f g h = let a : sum n f ≤ sum n g = sum_le n f g (λ i l. h i (omega arith)) in omega (arith, h n (omega arith))

pub sum_eq : (n : ℕ) (f g : ℕ → ℕ) → ((i : ℕ) → i < n → f i ≡ g i) → sum n f ≡ sum n g
unfolding sum
sum_eq zero f g h = refl
sum_eq (suc n) f g h = let a : sum n f ≡ sum n g = sum_eq n f g (λ i l. h i (omega arith)) in omega (arith, h n (omega arith))

pub sum_add : (n : ℕ) (f g : ℕ → ℕ) → sum n (λ i. f i + g i) ≡ sum n f + sum n g
unfolding sum
sum_add zero f g = refl
sum_add (suc n) f g = let a = sum_add n f g in omega arith

pub sum_const : (n c : ℕ) → sum n (λ i. c) ≡ n * c
unfolding sum
sum_const zero c = sym (zero-mul c)
sum_const (suc n) c = let a = sum_const n c in omega arith

pub sum_scale : (n c : ℕ) (f : ℕ → ℕ) → sum n (λ i. c * f i) ≡ c * sum n f
unfolding sum
sum_scale zero c f = sym (mul-zero c)
sum_scale (suc n) c f = let a = sum_scale n c f in omega arith

-- the order of summing does not matter
pub sum_swap : (m n : ℕ) (f : ℕ → ℕ → ℕ) → sum m (λ i. sum n (λ k. f i k)) ≡ sum n (λ k. sum m (λ i. f i k))
unfolding sum
sum_swap zero n f = sym (sum_zero n (λ k. 0) (λ k l. refl))
sum_swap (suc m) n f =
    let a = sum_swap m n f in
    let b = sum_add n (λ k. sum m (λ i. f i k)) (λ k. f m k) in
    omega arith

-- one term is at most the sum
pub sum_term : (n : ℕ) (f : ℕ → ℕ) (i : ℕ) → i < n → f i ≤ sum n f
unfolding sum
sum_term zero f i l = omega arith
sum_term (suc n) f i l = go (ℕ_discrete i n) (sum_term n f i)
  where
    go : Dec (i ≡ n) → (i < n → f i ≤ sum n f) → f i ≤ sum n f + f n
    go (yes e) r = let a : f i ≡ f n = ap f e in omega arith
    go (no e) r = let a : f i ≤ sum n f = r (omega arith) in omega arith

-- a longer sum is no smaller
pub sum_mono : (m n : ℕ) (f : ℕ → ℕ) → m ≤ n → sum m f ≤ sum n f
unfolding sum
sum_mono m n f l = le_ind (λ k. sum m f ≤ sum k f) (le_refl (sum m f)) (λ k h r. omega arith) n l

-- the sum up to m, and the terms from m on
pub sum_upto : (m k : ℕ) (f : ℕ → ℕ) → ((i : ℕ) → f i ≤ 1) → sum (m + k) f ≤ sum m f + k
unfolding sum
sum_upto m zero f h = rw (add-zero m) (omega arith)
sum_upto m (suc k) f h = let a = sum_upto m k f h in rw (add-suc m k) (omega (arith, h (m + k)))

-- terms that vanish from m on
pub sum_cut : (m n : ℕ) (f : ℕ → ℕ) → m ≤ n → ((i : ℕ) → m ≤ i → i < n → f i ≡ 0) → sum n f ≡ sum m f
unfolding sum
sum_cut m n f l h = go n l h
  where
    go : (n : ℕ) → m ≤ n → ((i : ℕ) → m ≤ i → i < n → f i ≡ 0) → sum n f ≡ sum m f
    go zero l h = let e : m ≡ 0 = omega arith in ap (λ (k : ℕ). sum k f) (sym e)
    go (suc n) l h = by_cases (dec_le m n)
        (λ (g : m ≤ n). let a : sum n f ≡ sum m f = go n g (λ i p q. h i p (omega arith)) in omega (arith, h n g (omega arith)))
        (λ (g : ¬ (m ≤ n)). let e : suc n ≡ m = omega arith in ap (λ (k : ℕ). sum k f) e)

-- ---- yes and no as 1 and 0

pub bit_yes : {A : Type 0} (d : Dec A) → A → bit d ≡ 1
unfolding bit
bit_yes (yes a) x = refl
bit_yes (no h) x = absurd (h x)

pub bit_no : {A : Type 0} (d : Dec A) → ¬ A → bit d ≡ 0
unfolding bit
bit_no (yes a) h = absurd (h a)
bit_no (no g) h = refl

pub bit_le : {A : Type 0} (d : Dec A) → bit d ≤ 1
unfolding bit
bit_le (yes a) = omega arith
bit_le (no g) = omega arith

pub bit_one : {A : Type 0} (d : Dec A) → bit d ≡ 1 → A
unfolding bit
bit_one (yes a) e = a
bit_one (no h) e = absurd (omega arith)

pub bit_mono : {A B : Type 0} (d : Dec A) (e : Dec B) → (A → B) → bit d ≤ bit e
unfolding bit
bit_mono (yes a) (yes b) f = omega arith
bit_mono (yes a) (no h) f = absurd (h (f a))
bit_mono (no g) e f = omega arith

pub bit_same : {A B : Type 0} (d : Dec A) (e : Dec B) → (A → B) → (B → A) → bit d ≡ bit e
bit_same d e f g = omega (arith, bit_mono d e f, bit_mono e d g)

-- the same places are so
pub bits_same : {A B : ℕ → Type 0} (n : ℕ) (d : (i : ℕ) → Dec (A i)) (e : (i : ℕ) → Dec (B i)) → ((i : ℕ) → i < n → A i → B i)
    → ((i : ℕ) → i < n → B i → A i) → sum n (λ i. bit (d i)) ≡ sum n (λ i. bit (e i))
bits_same n d e f g = sum_eq n _ _ (λ i l. bit_same (d i) (e i) (f i l) (g i l))

-- one place more is
pub bits_more : {A B : ℕ → Type 0} (n : ℕ) (d : (i : ℕ) → Dec (A i)) (e : (i : ℕ) → Dec (B i)) (p : ℕ) → p < n → ¬ A p → B p
    → ((i : ℕ) → i < n → i ≢ p → A i → B i) → ((i : ℕ) → i < n → i ≢ p → B i → A i) → sum n (λ i. bit (e i)) ≡ sum n (λ i. bit (d i)) + 1
unfolding sum
bits_more zero d e p l x y f g = absurd (omega (arith, l))
bits_more (suc n) d e p l x y f g =
    go (ℕ_discrete p n) (λ b. bits_more n d e p b x y (λ i c. f i (omega (arith, c))) (λ i c. g i (omega (arith, c))))
  where
    go : Dec (p ≡ n) → (p < n → sum n (λ i. bit (e i)) ≡ sum n (λ i. bit (d i)) + 1)
        → sum n (λ i. bit (e i)) + bit (e n) ≡ sum n (λ i. bit (d i)) + bit (d n) + 1
    go (yes z) rest =
        let same = bits_same n d e (λ i c. f i (omega (arith, c)) (omega (arith, c, z))) (λ i c. g i (omega (arith, c)) (omega (arith, c, z))) in
        let before : bit (d n) ≡ 0 = bit_no (d n) (rw z at x) in
        let now : bit (e n) ≡ 1 = bit_yes (e n) (rw z at y) in
        omega (arith, same, before, now)
    go (no z) rest =
        let same = bit_same (d n) (e n) (f n (omega arith) (λ w. z (sym w))) (g n (omega arith) (λ w. z (sym w))) in
        omega (arith, rest (omega (arith, l, z)), same)

-- no more than there are places
pub bits_most : {IsSo : ℕ → Type 0} (n : ℕ) (is : (i : ℕ) → Dec (IsSo i)) → sum n (λ i. bit (is i)) ≤ n
unfolding sum
bits_most zero is = omega arith
bits_most (suc n) is = omega (arith, bits_most n is, bit_le (is n))

-- a sum with one term that is not 0
pub sum_one : (n : ℕ) (f : ℕ → ℕ) (a c : ℕ) → ((i : ℕ) → i < n → i ≢ a → f i ≡ 0) → f a ≤ c → sum n f ≤ c
unfolding sum
sum_one zero f a c h k = omega arith
sum_one (suc n) f a c h k = go (ℕ_discrete n a) (sum_one n f a c (λ i l e. h i (omega arith) e) k)
  where
    go : Dec (n ≡ a) → sum n f ≤ c → sum n f + f n ≤ c
    go (yes e) r =
        let z : sum n f ≡ 0 = sum_zero n f (λ i l. h i (omega arith) (omega arith)) in
        let g : f n ≤ c = rw e k in
        omega arith
    go (no e) r = omega (arith, h n (omega arith) e)

-- a sum of noughts and ones with no two ones
pub sum_lone : (n : ℕ) (f : ℕ → ℕ) → ((i : ℕ) → f i ≤ 1) → ((i k : ℕ) → i < n → k < n → i ≢ k → f i ≡ 1 → f k ≡ 0) → sum n f ≤ 1
unfolding sum
sum_lone zero f b h = omega arith
sum_lone (suc n) f b h = go (ℕ_discrete (f n) 1) (sum_lone n f b (λ i k p q. h i k (omega arith) (omega arith)))
  where
    go : Dec (f n ≡ 1) → sum n f ≤ 1 → sum n f + f n ≤ 1
    go (yes e) r =
        let z : sum n f ≡ 0 = sum_zero n f (λ i l. h n i (omega arith) (omega arith) (omega arith) e) in
        omega arith
    go (no e) r = omega (arith, b n)

-- the first term apart
pub sum_first : (n : ℕ) (f : ℕ → ℕ) → sum (suc n) f ≡ f 0 + sum n (λ i. f (suc i))
unfolding sum
sum_first zero f = omega arith
sum_first (suc n) f = let a = sum_first n f in omega arith

-- noughts, w ones from s on, noughts
pub window : (s w E : ℕ) (f : ℕ → ℕ) → s + w ≤ E → ((t : ℕ) → t < s → f t ≡ 0) → ((t : ℕ) → s ≤ t → t < s + w → f t ≡ 1)
    → ((t : ℕ) → s + w ≤ t → f t ≡ 0) → sum E f ≡ w
unfolding sum
window s w E f l before inside after =
    let a : sum E f ≡ sum (s + w) f = sum_cut (s + w) E f l (λ i p q. after i p) in
    let b : sum s f ≡ 0 = sum_zero s f before in
    let c : sum (s + w) f ≡ sum s f + w = go w (λ t p q. inside t p q) in
    omega arith
  where
    go : (k : ℕ) → ((t : ℕ) → s ≤ t → t < s + k → f t ≡ 1) → sum (s + k) f ≡ sum s f + k
    go zero h = rw (add-zero s) (omega arith)
    go (suc k) h = let a = go k (λ t p q. h t p (omega arith)) in rw (add-suc s k) (omega (arith, h (s + k) (omega arith) (omega arith)))

-- a term of a sum over 1..n
pub sum_term₁ : (n : ℕ) (f : ℕ → ℕ) (j : ℕ) → Among 1 n j → f j ≤ sum n (λ i. f (suc i))
sum_term₁ n f zero r = absurd (omega (arith, r.low))
sum_term₁ n f (suc i) r = sum_term n (λ k. f (suc k)) i (omega (arith, r.high))

-- 1 at j, and 0 elsewhere
pub own_one : (n j : ℕ) → Among 1 n j → 1 ≤ sum n (λ i. bit (ℕ_discrete (suc i) j))
own_one n j r = rw (bit_yes (ℕ_discrete j j) refl) at (sum_term₁ n (λ k. bit (ℕ_discrete k j)) j r)
