-- The marks of the walk back along the arrows, and how many subtasks are new or not placed. Assumes nothing.
use Rattle.std.proofs.Common.{◌≡◌, refl, sym, ap, ◌∙◌, ◌≢◌, List, ℕ, zero, suc, ◌+◌, ◌≤◌, ◌<◌, arith, length, get_or, set, replicate}
use Rattle.std.proofs.lemmas.List.{get_or-replicate}
use Rattle.terms.specs.Graphs.{Among}
use Rattle.theory.proofs.Stores.{read_set}
use Rattle.theory.proofs.Tallies.{tally, tally_set}

-- 1 is new, 0 is placed
pub new : ℕ → ℕ
new zero = 0
new (suc zero) = 1
new (suc (suc mark)) = 0

pub unplaced : ℕ → ℕ
unplaced zero = 0
unplaced (suc mark) = 1

pub new_is : (mark : ℕ) → mark ≡ 1 → new mark ≡ 1
unfolding new
new_is mark e = ap new e

new_not : (mark : ℕ) → ¬ (mark ≡ 1) → new mark ≡ 0
unfolding new
new_not zero h = refl
new_not (suc zero) h = absurd (h refl)
new_not (suc (suc mark)) h = refl

pub unplaced_is : (mark : ℕ) → ¬ (mark ≡ 0) → unplaced mark ≡ 1
unfolding unplaced
unplaced_is zero h = absurd (h refl)
unplaced_is (suc mark) h = refl

pub unplaced_not : (mark : ℕ) → mark ≡ 0 → unplaced mark ≡ 0
unfolding unplaced
unplaced_not mark e = ap unplaced e

-- at first every subtask is new
pub first_mark : {n v : ℕ} → n ≤ 256 → Among 1 n v → ◌≡◌ {A = ℕ} (get_or (replicate 257 1) v 0) 1
first_mark {v = v} few t = get_or-replicate {A = ℕ} 257 v 1 0 (omega (arith, t.high, few))

-- subtask p has its mark changed
module _ (marks : List ℕ) {p : ℕ} (e : ℕ) (l : p < length marks) where
  -- a subtask with another mark keeps it
  pub kept : (v : ℕ) {x : ℕ} → x ≢ get_or marks p 0 → get_or marks v 0 ≡ x → get_or (set marks p e) v 0 ≡ x
  kept v {x} h z = read_set (λ y. y ≡ x) marks p e v l (λ q. absurd (h (sym z ∙ ap (λ (y : ℕ). get_or marks y 0) q))) (λ _. z)

  module _ {n : ℕ} (t : Among 1 n p) where
    -- p was new, and is on the way now
    pub fewer_new : get_or marks p 0 ≡ 1 → 2 ≤ e → tally new (set marks p e) n + 1 ≡ tally new marks n
    fewer_new z h = omega (arith, tally_set new marks p e n t l, new_is (get_or marks p 0) z, new_not e (λ q. omega (arith, q, h)))

    pub same_unplaced : get_or marks p 0 ≡ 1 → 2 ≤ e → tally unplaced (set marks p e) n ≡ tally unplaced marks n
    same_unplaced z h =
        let was = unplaced_is (get_or marks p 0) (λ q. omega (arith, q, z)) in
        omega (arith, tally_set unplaced marks p e n t l, was, unplaced_is e (λ q. omega (arith, q, h)))

    -- p was on the way, and is placed now
    pub fewer_unplaced : 1 ≤ get_or marks p 0 → e ≡ 0 → tally unplaced (set marks p e) n + 1 ≡ tally unplaced marks n
    fewer_unplaced h z = omega (arith, tally_set unplaced marks p e n t l, unplaced_is (get_or marks p 0) (λ q. omega (arith, q, h)), unplaced_not e z)

    pub same_new : 2 ≤ get_or marks p 0 → e ≡ 0 → tally new (set marks p e) n ≡ tally new marks n
    same_new h z = omega (arith, tally_set new marks p e n t l, new_not (get_or marks p 0) (λ q. omega (arith, q, h)), new_not e (λ q. omega (arith, q, z)))
