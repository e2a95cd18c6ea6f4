-- `chain_arrows`: the arrows that came so far as chains by where they come from, and how many of them go to each subtask. Assumes nothing.
use Rattle.listplan.proofs.ChainedArrows.{Chained}
use Rattle.listplan.proofs.tables.chain_arrows.Given as goal

abbrev pub invariant-loop-i : goal.invariant-loop-i
invariant-loop-i l = Chained l.arrows l.first l.next l.left l.i
