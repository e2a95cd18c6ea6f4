-- `rank_subtasks`: where each subtask that came so far stands, and which of them can go at the beginning. Assumes nothing.
use Rattle.listplan.proofs.Ranking.{Ranked}
use Rattle.listplan.proofs.tables.rank_subtasks.Given as goal

abbrev pub invariant-loop-x : goal.invariant-loop-x
invariant-loop-x l = Ranked l.order l.left l.rank l.marks l.x
