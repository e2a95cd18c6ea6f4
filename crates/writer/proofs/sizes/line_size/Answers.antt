-- `line_size`: the line of a task, number by number: what is counted and what remains make up the line. Assumes nothing.
use Rattle.writer.proofs.TaskLines.{counted_none, counted_next, counted_all}
use Rattle.writer.proofs.sizes.line_size.Goals as goal

pub loop-x-init : goal.loop-x-init
loop-x-init c =
    counted_none _ _ _ _ _ _ c.number_size.ensures c.number_size-2.ensures c.number_size-3.ensures

pub loop-x-preserved : goal.loop-x-preserved
loop-x-preserved c =
    counted_next _ _ _ _ _ c.loop-x-test.true c.from.ensures c.number_size-in-loop-x.ensures
    c.loop-x.invariant

pub returns : goal.returns
returns c =
    counted_all _ _ _ c.loop-x-test.false c.requires c.loop-x.invariant
