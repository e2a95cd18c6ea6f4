-- A row of marks: what is read from it after a store. Assumes nothing.
use Rattle.std.proofs.Common.{◌≡◌, refl, sym, ap, subst, ◌∙◌, List, ℕ, zero, suc, ◌<◌, Bool, true, false, length, get_or, set, replicate, get_or-set_same, get_or-set_other}
use Rattle.std.proofs.Math.Decide.{ℕ_discrete}

-- by whether the place is the one stored at
pub read_bit : (Q : Bool → Type 0) (l : List Bool) (i : ℕ) (a : Bool) (x : ℕ) → i < length l → (x ≡ i → Q a) → (¬ (x ≡ i) → Q (get_or l x false))
    → Q (get_or (set l i a) x false)
read_bit Q l i a x h here there = go (ℕ_discrete x i)
  where
    go : Dec (x ≡ i) → Q (get_or (set l i a) x false)
    go (yes e) = subst Q (sym (ap (λ (y : ℕ). get_or (set l i a) y false) e ∙ get_or-set_same l i a false h)) (here e)
    go (no n) = subst Q (sym (get_or-set_other l i x a false n)) (there n)

-- a row without marks
pub all_unmarked : (n i : ℕ) → get_or (replicate n false) i false ≡ false
all_unmarked zero i = refl
all_unmarked (suc n) zero = refl
all_unmarked (suc n) (suc i) = all_unmarked n i

pub none_true : {b : Bool} → b ≡ false → ¬ (b ≡ true)
none_true e t = let z : false ≡ true = sym e ∙ t in cc
