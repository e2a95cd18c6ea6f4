-- How large C, P and S are, and the laws of S and of the sure end. Assumes nothing.
use Rattle.std.proofs.Common.{◌≡◌, ap, List, ℕ, zero, suc, ◌+◌, ◌-◌, ◌*◌, ◌≤◌, ◌<◌, mul-le-mul_left, mul-le-mul, le-div_iff_mul-le, div-lt_iff_lt-mul, arith}
use Rattle.std.proofs.Math.Nat.{le_dest, lt-mul-div-succ}
use Rattle.terms.specs.Graphs.{Among, In16Bits}
use Rattle.terms.specs.Paths.{total_work, IsLongest}
use Rattle.terms.specs.Verdicts.{bound, sure_end}
use Rattle.theory.specs.Sound.{SoundGraph}
use Rattle.theory.proofs.Work.{total_small}
use Rattle.theory.proofs.Paths.{longest_total}

-- what was measured of a graph that is accepted
pub measured_small : {times : List ℕ} {arrows : List (List ℕ)} (P : ℕ) → SoundGraph times arrows → In16Bits times → IsLongest times arrows P
    → (P ≤ total_work times) × (total_work times ≤ 16776960)
measured_small P g bits l = (longest_total P g l, total_small g bits)

-- on k + 1 processors there are k paths in S
bound_suc : (C P k : ℕ) → bound C P (suc k) ≡ C + k * P
unfolding bound
bound_suc C P k = ap (λ (m : ℕ). C + m * P) (pred_one k)
  where
    pred_one : (m : ℕ) → suc m - 1 ≡ m
    pred_one m = omega arith

-- a longer path makes S no smaller
pub bound_mono : (C P Q M : ℕ) → P ≤ Q → bound C P M ≤ bound C Q M
unfolding bound
bound_mono C P Q M l = let x = mul-le-mul_left (M - 1) l in omega arith

-- with times of 16 bits on at most 16 processors S is at most 16 × 16,776,960
pub bound_small : (C P M : ℕ) → C ≤ 16776960 → P ≤ C → Among 1 16 M → bound C P M ≤ 268431360
unfolding bound
bound_small C P M c p m =
    let k : M - 1 ≤ 15 = omega (arith, m.high) in
    let l : P ≤ 16776960 = omega arith in
    let x : (M - 1) * P ≤ 15 * 16776960 = mul-le-mul k l in
    omega arith

-- ---- the sure end is the largest E for which M × E is at most S: such an E is at most the sure end, and one more is no such E

sure_end_past : (S M : ℕ) → 1 ≤ M → S < M * (sure_end S M + 1)
unfolding sure_end
sure_end_past S M one = lt-mul-div-succ S one

pub at_most_sure_end : (S M E : ℕ) → 1 ≤ M → M * E ≤ S → E ≤ sure_end S M
unfolding sure_end
at_most_sure_end S M E one l = (le-div_iff_mul-le one).1 (omega arith)

pub sure_end_at_most : (S M D : ℕ) → 1 ≤ M → S < M * (D + 1) → sure_end S M ≤ D
unfolding sure_end
sure_end_at_most S M D one l = let x : sure_end S M < D + 1 = (div-lt_iff_lt-mul one).1 (omega arith) in omega arith

-- less work, a shorter path and more processors make it no later: P ≤ C says that it is not before P, so each processor more adds no more to S than
-- to M × the sure end
pub sure_end_altered : (C P C' P' M M' : ℕ) → 1 ≤ M → P ≤ C → C' ≤ C → P' ≤ P → M ≤ M' → sure_end (bound C' P' M') M' ≤ sure_end (bound C P M) M
sure_end_altered C P C' P' zero M' one pc c p m = absurd (omega arith)
sure_end_altered C P C' P' (suc k) zero one pc c p m = absurd (omega arith)
sure_end_altered C P C' P' (suc k) (suc k') one pc c p m =
    let S = bound C P (suc k) in
    let S-is : S ≡ C + k * P = bound_suc C P k in
    let end = sure_end S (suc k) in
    let x = sure_end_past S (suc k) one in
    let y : P ≤ end = at_most_sure_end S (suc k) P one (omega arith) in
    let d = le_dest m in
    let h : k' ≡ k + d.0 = omega (arith, d.1) in
    let z : d.0 * P ≤ d.0 * end = mul-le-mul_left d.0 y in
    let w : (k + d.0) * P' ≤ (k + d.0) * P = mul-le-mul_left (k + d.0) p in
    rw h (sure_end_at_most (bound C' P' (suc (k + d.0))) (suc (k + d.0)) end (omega arith) (omega (arith, bound_suc C' P' (k + d.0))))
