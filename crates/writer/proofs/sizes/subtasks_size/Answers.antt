-- `subtasks_size`: the lines of the subtasks, one by one: what is counted and what remains make up all. Assumes nothing.
use Rattle.writer.proofs.SubtaskTexts.{counted_none, counted_next, counted_all}
use Rattle.writer.proofs.sizes.subtasks_size.Goals as goal

pub loop-i-init : goal.loop-i-init
loop-i-init c = counted_none _ _ _

pub loop-i-preserved : goal.loop-i-preserved
loop-i-preserved c = counted_next _ _ _ _ c.loop-i.invariant (record { below = c.loop-i-test.true; time_is = c.time_in.ensures.0; row_is = c.shown-row.ensures.0 }) c.line_size-size.ensures

pub returns : goal.returns
returns c = counted_all _ _ _ c.requires.count c.loop-i-test.false c.loop-i.invariant
