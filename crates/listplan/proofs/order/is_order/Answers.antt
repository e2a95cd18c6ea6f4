-- `is_order`: the row is an order of all subtasks, or it is not. Assumes nothing.
use Rattle.listplan.proofs.OrderTest.{none_named}
use Rattle.listplan.proofs.order.is_order.Goals as goal

pub loop-number-init : goal.loop-number-init
loop-number-init c = none_named
