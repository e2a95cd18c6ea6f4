-- `read_tasks`: the subtasks' lines and the closing leave the reading from there on. Assumes nothing.
use Rattle.std.proofs.Common.{sym, rules}
use Rattle.std.proofs.lemmas.Result.{err_from_is_err_and}
use Rattle.stg.specs.LinesRead.{Leaves}
use Rattle.stg.proofs.AllLines.{closing_refused, closing_sound}
use Rattle.stg.proofs.read_tasks.Goals as goal

pub returns-in_err-next : goal.returns-in_err-next
unfolding Leaves
returns-in_err-next c =
    let p = err_from_is_err_and c.from_residual.result c.from_residual.ensures.1 in
    rw (p.1, p.2) c.in_err-next.ensures

pub returns-in_err-take_closing : goal.returns-in_err-take_closing
unfolding Leaves
returns-in_err-take_closing c =
    let p = err_from_is_err_and c.from_residual-in_err-take_closing.result c.from_residual-in_err-take_closing.ensures.1 in
    rw (p.1, p.2) (closing_refused _ _ _ _ _ c.in_ok-next.ensures.1 _ c.in_err-take_closing.ensures)

pub returns : goal.returns
returns c =
    let (same, subtasks) = c.in_ok-next.ensures in
    closing_sound _ _ _ _ _ subtasks _ (search (rules, sym same)) c.in_ok-take_closing.ensures c.requires.1
