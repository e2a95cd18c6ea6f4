-- C: as a sum over the subtasks, and at most 16,776,960. Assumes nothing.
use Rattle.std.proofs.Common.{◌≡◌, refl, List, ℕ, suc, ◌≤◌, arith, length}
use Rattle.terms.specs.Sums.{sum}
use Rattle.terms.specs.Graphs.{time_of, In16Bits}
use Rattle.terms.specs.Paths.{total_work}
use Rattle.theory.specs.Sound.{SoundGraph}
use Rattle.theory.proofs.Sums.{sum_le, sum_const}

pub total_sum : (times : List ℕ) → total_work times ≡ sum (length times) (λ i. time_of times (suc i))
unfolding total_work
total_sum times = refl

-- 256 times of 65,535 are the most
pub total_small : {times : List ℕ} {arrows : List (List ℕ)} → SoundGraph times arrows → In16Bits times → total_work times ≤ 16776960
total_small {times} g h =
    let x : sum (length times) (λ i. time_of times (suc i)) ≤ sum (length times) (λ i. 65535) =
    sum_le (length times) _ _ (λ i l. h (suc i) (record { low = omega arith; high = l })) in
    omega (arith, total_sum times, sum_const (length times) 65535, g.count.high)
