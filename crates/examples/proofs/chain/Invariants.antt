-- `chain`: the row keeps its length. Assumes nothing.
use Rattle.std.proofs.Common.{◌≡◌, length}
use Rattle.examples.proofs.chain.Given as goal

abbrev pub invariant-loop-j : goal.invariant-loop-j
invariant-loop-j l = length l.arrows ≡ 255
