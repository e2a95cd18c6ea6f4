-- `put_subtasks`: the lines of the subtasks, one by one: whoever puts those that remain has put all. Assumes nothing.
use Rattle.std.proofs.Common.{refl, ◌∙◌}
use Rattle.writer.proofs.SubtaskTexts.{lines_all, line_room, lines_next, lines_end}
use Rattle.writer.proofs.lines.put_subtasks.Goals as goal

pub loop-i-init : goal.loop-i-init
loop-i-init c = (refl, lines_all _ _ _ _ _ c.requires.1)

pub put_line-requires : goal.put_line-requires
put_line-requires c = (
  c.shown-row.ensures.1,
  line_room _ _ _ c.loop-i.invariant.1
      (record { below = c.loop-i-test.true; time_is = c.time_in.ensures.0; row_is = c.shown-row.ensures.0 }),
)

pub loop-i-preserved : goal.loop-i-preserved
loop-i-preserved c = (
  c.put_line.ensures.same_room ∙ c.loop-i.invariant.0,
  lines_next _ _ _ c.loop-i.invariant.1 (record { below = c.loop-i-test.true; time_is = c.time_in.ensures.0; row_is = c.shown-row.ensures.0 }) c.put_line.ensures.stands,
)

pub returns : goal.returns
returns c = record { same_room = c.loop-i.invariant.0; stands = lines_end _ _ _ c.loop-i-test.false c.loop-i.invariant.1 }
