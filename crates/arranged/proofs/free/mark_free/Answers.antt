-- `mark_free`: the marks, arrow by arrow. Assumes nothing.
use Rattle.arranged.proofs.NoArrows.{marks_none, marks_more}
use Rattle.arranged.proofs.free.mark_free.Goals as goal

pub loop-ends-init : goal.loop-ends-init
loop-ends-init c = marks_none _ _

pub loop-ends-preserved : goal.loop-ends-preserved
loop-ends-preserved c = marks_more _ _ c.loop-ends-test.true c.of.ensures c.min.ensures c.loop-ends.invariant
