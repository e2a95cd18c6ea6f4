-- `order_by_number`: the places below j hold their numbers. Assumes nothing.
use Rattle.std.proofs.Common.{◌≡◌, ℕ, ◌+◌, ◌<◌, length, get_or}
use Rattle.inputs.proofs.order_by_number.Given as goal

abbrev pub invariant-loop-j : goal.invariant-loop-j
invariant-loop-j l = (length l.order ≡ 256) × ((i : ℕ) → i < l.j → get_or l.order i 0 ≡ i + 1)
