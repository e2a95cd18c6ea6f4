-- `take_subtasks`: the lines of all subtasks. Assumes nothing.
use Rattle.std.proofs.Common.{arith}
use Rattle.std.proofs.lemmas.Result.{err_from_is_err_and}
use Rattle.stg.proofs.SubtaskLines.{left_bad, left_end}
use Rattle.stg.proofs.tasks.take_subtasks.Goals as goal

pub returns-in_err-here : goal.returns-in_err-here
returns-in_err-here c =
    let p = err_from_is_err_and c.from_residual.result c.from_residual.ensures.1 in
    rw (p.1, p.2) (left_bad c.loop-j.invariant.1 _ (omega arith) c.in_err-here.ensures)

pub returns : goal.returns
returns c = (c.loop-j.invariant.0, left_end c.loop-j.invariant.1 (omega arith))
