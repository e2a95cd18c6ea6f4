-- `put_subtasks`: the lines of the subtasks, one by one: whoever puts those that remain has put all. Assumes nothing.
use Rattle.std.proofs.Common.{◌≡◌}
use Rattle.writer.proofs.SubtaskTexts.{LinesRemain}
use Rattle.writer.proofs.lines.put_subtasks.Given as goal

abbrev pub invariant-loop-i : goal.invariant-loop-i
invariant-loop-i l =
    (l.pen.text.ghost_name ≡ l.fn.pen.text.ghost_name)
    × LinesRemain l.times l.predecessors.begins.now l.predecessors.numbers.now l.fn.pen.text.now l.fn.pen.at l.pen.text.now l.pen.at l.i
