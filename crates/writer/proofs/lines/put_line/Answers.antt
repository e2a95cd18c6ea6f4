-- `put_line`: the line of a task, number by number: whoever puts those that remain has put the line. Assumes nothing.
use Rattle.std.proofs.Common.{refl, ◌∙◌}
use Rattle.writer.proofs.TaskLines.{time_room, count_room, count_stands, numbers_all, numbers_room, numbers_next, numbers_end}
use Rattle.writer.proofs.lines.put_line.Goals as goal

pub put_further-requires : goal.put_further-requires
put_further-requires c = time_room _ _ _ c.requires.1 c.put_number.ensures.put

pub put_further-requires-2 : goal.put_further-requires-2
put_further-requires-2 c = count_room _ _ _ c.requires.1 c.put_number.ensures.put c.put_further.ensures.stands

pub loop-x-init : goal.loop-x-init
loop-x-init c = (
  refl,
  numbers_all _ (count_stands _ _ _ c.requires.1 c.put_number.ensures.put c.put_further.ensures.stands c.put_further-2.ensures.stands),
)

pub put_further-requires-in-loop-x : goal.put_further-requires-in-loop-x
put_further-requires-in-loop-x c = numbers_room _ _ c.loop-x-test.true c.from.ensures c.loop-x.invariant.1

pub loop-x-preserved : goal.loop-x-preserved
loop-x-preserved c = (
  c.put_further-in-loop-x.ensures.same_room ∙ c.loop-x.invariant.0,
  numbers_next _ _ c.loop-x-test.true c.from.ensures c.loop-x.invariant.1 c.put_further-in-loop-x.ensures.stands,
)

pub returns : goal.returns
returns c = record {
  same_room =
      c.end_line.ensures.same_room
      ∙ c.loop-x.invariant.0
      ∙ c.put_further-2.ensures.same_room
      ∙ c.put_further.ensures.same_room
      ∙ c.put_number.ensures.same_room;
  stands =
      numbers_end _
      (count_stands _ _ _ c.requires.1 c.put_number.ensures.put c.put_further.ensures.stands c.put_further-2.ensures.stands)
      c.loop-x-test.false c.loop-x.invariant.1 c.end_line.ensures.put;
}
