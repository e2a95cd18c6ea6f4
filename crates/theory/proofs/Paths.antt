-- Paths of an accepted graph: none visits a subtask twice, so P ≤ C; and P is one number. Assumes nothing.
use Rattle.std.proofs.Common.{◌≡◌, refl, ◌⊎◌, inl, inr, List, ℕ, suc, ◌+◌, ◌*◌, ◌≤◌, one-mul, add-mul, mul-le-mul_right, arith, length}
use Rattle.std.proofs.Math.Logic.{by_cases}
use Rattle.std.proofs.Math.Decide.{dec_le, ℕ_discrete}
use Rattle.terms.specs.Graphs.{IsSubtask, time_of, Precedes, LeadsTo, step, more}
use Rattle.terms.specs.Paths.{total_work, PathTo, alone, along, weight, IsLongest}
use Rattle.theory.specs.Sound.{SoundGraph}
use Rattle.theory.proofs.Accepted.{to_subtask}
use Rattle.terms.specs.Sums.{sum}
use Rattle.theory.specs.Counting.{bit}
use Rattle.theory.proofs.Sums.{sum_le, sum_add, bit_yes, bit_no, bit_le, sum_term₁}
use Rattle.theory.proofs.Work.{total_sum}

-- the time of j is a term of the sum of the visits to j
pub own : (times : List ℕ) (j : ℕ) → IsSubtask times j → time_of times j ≤ sum (length times) (λ i. bit (ℕ_discrete (suc i) j) * time_of times (suc i))
own times j s = rw (bit_yes (ℕ_discrete j j) refl, one-mul) at (sum_term₁ (length times) (λ k. bit (ℕ_discrete k j) * time_of times k) j s)

module _ {times : List ℕ} {arrows : List (List ℕ)} where
  -- how often a path visits x
  unfoldable pub visits : {j : ℕ} → PathTo times arrows j → ℕ → ℕ
  visits (alone j s) x = bit (ℕ_discrete x j)
  visits (along p j a) x = visits p x + bit (ℕ_discrete x j)

  -- what a path visits is its end or leads there
  visited : {j : ℕ} (p : PathTo times arrows j) (x : ℕ) → 1 ≤ visits p x → (x ≡ j) ⊎ LeadsTo arrows x j
  unfolding visits
  visited (alone j s) x h = by_cases (ℕ_discrete x j) (λ e. inl e) (λ e. let z = bit_no (ℕ_discrete x j) e in absurd (omega arith))
  visited (along p j a) x h = by_cases (ℕ_discrete x j) (λ e. inl e) (λ e. let z = bit_no (ℕ_discrete x j) e in inr (go (visited p x (omega arith)) a))
    where
      go : {i : ℕ} → (x ≡ i) ⊎ LeadsTo arrows x i → Precedes arrows i j → LeadsTo arrows x j
      go (inl e) a = step (rw (← e) at a)
      go (inr l) a = more l a

  -- no path visits a subtask twice
  pub visits_once : SoundGraph times arrows → {j : ℕ} (p : PathTo times arrows j) (x : ℕ) → visits p x ≤ 1
  unfolding visits
  visits_once g (alone j s) x = bit_le (ℕ_discrete x j)
  visits_once g (along p j a) x = by_cases (ℕ_discrete x j)
      (λ e. by_cases (dec_le 1 (visits p x)) (λ v. absurd (go (visited p x v) a e)) (λ v. omega (arith, bit_le (ℕ_discrete x j))))
      (λ e. omega (arith, bit_no (ℕ_discrete x j) e, visits_once g p x))
    where
      go : {i : ℕ} → (x ≡ i) ⊎ LeadsTo arrows x i → Precedes arrows i j → x ≡ j → ⊥
      go (inl d) a e = g.acyclic j (step (rw (← d, e) at a))
      go (inr l) a e = g.acyclic j (rw e at (more l a))

  weight_visits : SoundGraph times arrows → {j : ℕ} (p : PathTo times arrows j) → weight p ≤ sum (length times) (λ i. visits p (suc i) * time_of times (suc i))
  unfolding visits weight
  weight_visits g (alone j s) = own times j s
  weight_visits g (along p j a) =
      let x = weight_visits g p in
      let y = own times j (to_subtask g a) in
      let z = sum_add (length times) (λ i. visits p (suc i) * time_of times (suc i)) (λ i. bit (ℕ_discrete (suc i) j) * time_of times (suc i)) in
      simp add-mul (omega arith)

  -- a path weighs at most the total work
  pub weight_total : SoundGraph times arrows → {j : ℕ} (p : PathTo times arrows j) → weight p ≤ total_work times
  weight_total g p =
      let x = weight_visits g p in
      let y : sum (length times) (λ i. visits p (suc i) * time_of times (suc i)) ≤ sum (length times) (λ i. time_of times (suc i)) =
      sum_le (length times) _ _ (λ i l. rw one-mul at (mul-le-mul_right (time_of times (suc i)) (visits_once g p (suc i)))) in
      omega (arith, total_sum times)

  -- P ≤ C
  pub longest_total : (P : ℕ) → SoundGraph times arrows → IsLongest times arrows P → P ≤ total_work times
  longest_total P g q = omega (arith, weight_total g q.reached.1, q.reached.2)

-- the longest path is one number
pub one_longest : {times : List ℕ} {arrows : List (List ℕ)} (P Q : ℕ) → IsLongest times arrows P → IsLongest times arrows Q → P ≡ Q
one_longest P Q p q = omega (arith, p.reached.2, q.reached.2, p.most q.reached.0 q.reached.1, q.most p.reached.0 p.reached.1)

-- a path ends in a subtask
pub end_subtask : {times : List ℕ} {arrows : List (List ℕ)} {j : ℕ} → SoundGraph times arrows → PathTo times arrows j → IsSubtask times j
end_subtask g (alone j s) = s
end_subtask g (along p j w) = to_subtask g w
