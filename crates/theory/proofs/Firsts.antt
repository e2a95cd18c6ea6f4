-- A scan that answers the first place, and what it says of all; what a flag says. Assumes nothing.
use Rattle.std.proofs.Common.{◌≡◌, subst, ◌≢◌, Bool, true, false, ℕ, ◌+◌, ◌-◌, ◌≤◌, ◌<◌, arith}
use Rattle.std.specs.Prelude.{Some, None}
use Rattle.terms.specs.Graphs.{Among}
use Rattle.terms.specs.declared.Subtask.{Subtask}
use Rattle.theory.specs.First.{First, FirstSubtask, IsFirst, IsFirstSubtask}
use Rattle.theory.specs.Flags.{Says, Shows}

-- P holds at no place below i
abbrev pub Clear : (ℕ → Type 0) → ℕ → Type 0
Clear P i = (k : ℕ) → k < i → ¬ P k

pub first_here : (n : ℕ) (P : ℕ → Type 0) (i : ℕ) → i < n → Clear P i → P i → First n P (i + 1)
first_here n P i l h p =
    let e : i ≡ i + 1 - 1 = omega arith in
    record {
      within = omega arith;
      least = λ k b. h k (omega (arith, b));
      holds = λ _. subst P e p;
      none = λ q. absurd (omega (arith, q));
    }

pub first_none : (n : ℕ) (P : ℕ → Type 0) (i : ℕ) → Clear P i → n ≤ i → First n P 0
first_none n P i h l = record {
  within = omega arith;
  least = λ k b. absurd (omega (arith, b));
  holds = λ b. absurd (omega (arith, b));
  none = λ _ k b. h k (omega (arith, b));
}

-- ---- over subtasks

-- none of the subtasks 1..i is so
abbrev pub NoneTo : (ℕ → Type 0) → ℕ → Type 0
NoneTo IsSo i = Clear (λ k. IsSo (k + 1)) i

module _ {n : ℕ} (IsSo : ℕ → Type 0) {r : ℕ} (f : FirstSubtask n IsSo r) where
  pub first_is : r ≢ 0 → Among 1 n r × IsSo r
  first_is h =
      let e : r - 1 + 1 ≡ r = omega (arith, h) in
      (record { low = omega (arith, h); high = f.within }, subst IsSo e (f.holds (omega (arith, h))))

  pub first_no : r ≡ 0 → (j : ℕ) → Among 1 n j → ¬ IsSo j
  first_no z j a h =
      let e : j - 1 + 1 ≡ j = omega (arith, a.low) in
      f.none z (j - 1) (omega (arith, a.low, a.high)) (rw e h)

  pub first_least : (j : ℕ) → 1 ≤ j → j < r → ¬ IsSo j
  first_least j a l h = let e : j - 1 + 1 ≡ j = omega (arith, a) in f.least (j - 1) (omega (arith, a, l)) (rw e h)

-- ---- what a scan answers, as a position that is 0 for none

module _ (n : ℕ) (IsSo : ℕ → Type 0) where
  pub first_place : (i : ℕ) → IsFirst n IsSo (Some i) → First n IsSo (i + 1)
  unfolding IsFirst
  first_place i f = first_here n IsSo i f.inside f.least f.is_so

  pub no_first_place : IsFirst n IsSo None → First n IsSo 0
  unfolding IsFirst
  no_first_place f = first_none n IsSo n f (omega arith)

  pub first_subtask_is : {j : Subtask} → IsFirstSubtask n IsSo (Some j) → FirstSubtask n IsSo j.0
  unfolding IsFirstSubtask
  first_subtask_is {j} (a, p, l) =
      let e : j.0 - 1 + 1 ≡ j.0 = omega (arith, a.low) in
      let b : j.0 - 1 < n = omega (arith, a.low, a.high) in
      let clear : Clear (λ k. IsSo (k + 1)) (j.0 - 1) = λ k c. l (k + 1) (omega arith) (omega (arith, c, a.low)) in
      subst (FirstSubtask n IsSo) e (first_here n (λ k. IsSo (k + 1)) (j.0 - 1) b clear (rw e p))

  pub no_first_subtask : IsFirstSubtask n IsSo None → FirstSubtask n IsSo 0
  unfolding IsFirstSubtask
  no_first_subtask f = first_none n (λ k. IsSo (k + 1)) n (λ k b. f (k + 1) (record { low = omega arith; high = omega (arith, b) })) (omega arith)

  pub first_subtask_ne0 : {j : Subtask} → IsFirstSubtask n IsSo (Some j) → j.0 ≢ 0
  unfolding IsFirstSubtask
  first_subtask_ne0 (a, p, l) z = omega (arith, a.low, z)

-- ---- what a flag says

pub said : {P : Type 0} {b : Bool} → b ≡ true → Says P b → P
said {P} e h = subst (Says P) e h

pub unsaid : {P : Type 0} {b : Bool} → b ≡ false → Says P b → ¬ P
unsaid {P} e h = subst (Says P) e h

pub shown : {P : Type 0} {b : Bool} → b ≡ true → Shows P b → P
shown {P} e h = subst (Shows P) e h
