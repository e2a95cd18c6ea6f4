-- `rank_subtasks`: where each subtask stands in the order, and which can go at the beginning. Assumes nothing.
use Rattle.listplan.proofs.Ranking.{ranked_none}
use Rattle.listplan.proofs.tables.rank_subtasks.Goals as goal

pub loop-x-init : goal.loop-x-init
loop-x-init c = ranked_none c.requires.left_len.1 c.requires.left_len.2
