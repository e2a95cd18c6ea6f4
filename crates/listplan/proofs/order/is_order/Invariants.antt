-- `is_order`: those of the order that came so far are subtasks, each once. Assumes nothing.
use Rattle.listplan.proofs.OrderTest.{Named}
use Rattle.listplan.proofs.order.is_order.Given as goal

abbrev pub invariant-loop-number : goal.invariant-loop-number
invariant-loop-number l = Named l.times l.order l.seen l.number-index
