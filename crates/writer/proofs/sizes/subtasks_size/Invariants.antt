-- `subtasks_size`: the lines of the subtasks, one by one: what is counted and what remains make up all. Assumes nothing.
use Rattle.writer.proofs.SubtaskTexts.{LinesCounted}
use Rattle.writer.proofs.sizes.subtasks_size.Given as goal

abbrev pub invariant-loop-i : goal.invariant-loop-i
invariant-loop-i l = LinesCounted l.times l.predecessors.begins.now l.predecessors.numbers.now l.size l.i
