-- `shown`: the row, or the one predecessor 0. Assumes nothing.
use Rattle.std.proofs.Common.{arith, ap, length}
use Rattle.writer.proofs.TaskLines.{count_none, count_some}
use Rattle.writer.proofs.rows.Predecessors.shown.Goals as goal

pub returns-in-empty : goal.returns-in-empty
returns-in-empty c = (count_none _ (omega (arith, ap length c.of.ensures.0)), omega arith)

pub returns-in_default : goal.returns-in_default
returns-in_default c =
    let (same, few) = c.of.ensures in
    (rw (← same) (count_some c.of.result.now (λ e. omega arith)), omega arith)
