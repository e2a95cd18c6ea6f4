-- `line_size`: the line of a task, number by number: what is counted and what remains make up the line. Assumes nothing.
use Rattle.writer.proofs.TaskLines.{NumbersCounted}
use Rattle.writer.proofs.sizes.line_size.Given as goal

abbrev pub invariant-loop-x : goal.invariant-loop-x
invariant-loop-x l = NumbersCounted l.task l.time l.row l.size l.x-index
