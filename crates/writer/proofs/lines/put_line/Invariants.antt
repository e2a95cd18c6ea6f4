-- `put_line`: the line of a task, number by number: whoever puts those that remain has put the line. Assumes nothing.
use Rattle.std.proofs.Common.{◌≡◌}
use Rattle.writer.proofs.TaskLines.{NumbersRemain}
use Rattle.writer.proofs.lines.put_line.Given as goal

abbrev pub invariant-loop-x : goal.invariant-loop-x
invariant-loop-x l = (l.pen.text.ghost_name ≡ l.initial.pen.text.ghost_name)
    × NumbersRemain l.row l.initial.pen.text.now l.initial.pen.at l.pen.text.now l.pen.at l.x-index
