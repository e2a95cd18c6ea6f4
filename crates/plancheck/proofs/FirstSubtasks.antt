-- The first subtask that is so, as a scan that goes up place by place meets it; what a flag says. Assumes nothing.
use Rattle.std.proofs.Common.{◌≡◌, ℕ, ◌+◌, ◌-◌, ◌≤◌, ◌<◌, None, Some, Bool, true, false, refl, sym, subst, arith}
use Rattle.theory.specs.First.{IsFirst, IsFirstSubtask}
use Rattle.theory.specs.Flags.{Says}
use Rattle.theory.proofs.Firsts.{NoneTo}

module _ {n : ℕ} (IsSo : ℕ → Type 0) {i : ℕ} (none : NoneTo IsSo i) where
  pub first_here : i < n → IsSo (i + 1) → IsFirstSubtask n IsSo (Some (record { 0 = i + 1 }))
  unfolding IsFirstSubtask
  first_here l is = (record { low = omega arith; high = omega arith }, is, λ k a b. at k a (none (k - 1) (omega arith)))
    where
      at : (k : ℕ) → 1 ≤ k → ¬ IsSo (k - 1 + 1) → ¬ IsSo k
      at k a not_so = let e : k - 1 + 1 ≡ k = omega arith in rw e at not_so

  pub first_none : n ≤ i → IsFirstSubtask n IsSo None
  unfolding IsFirstSubtask
  first_none l k a h = let e : k - 1 + 1 ≡ k = omega (arith, a.low) in none (k - 1) (omega (arith, a.low, a.high)) (rw e h)

-- the same of a place
module _ (n : ℕ) (IsSo : ℕ → Type 0) where
  pub place_here : (i : ℕ) → IsFirst n (λ k. IsSo (k + 1)) (Some i) → IsFirstSubtask n IsSo (Some (record { 0 = i + 1 }))
  unfolding IsFirst
  place_here i f = first_here IsSo f.least f.inside f.is_so

  pub place_none : IsFirst n (λ k. IsSo (k + 1)) None → IsFirstSubtask n IsSo None
  unfolding IsFirst
  place_none f = let clear : NoneTo IsSo n = f in first_none IsSo clear (omega arith)

-- ---- what a flag says

-- one that is true exactly where A holds
pub says : {A : Type 0} (b : Bool) → (b ≡ true → A) → (A → b ≡ true) → Says A b
says true to back = to refl
says false to back = λ a. let e : false ≡ true = back a in cc

pub says_no : {A : Type 0} {b : Bool} → b ≡ false → ¬ A → Says A b
says_no {A} e h = subst (Says A) (sym e) h
