-- `take_opening`: the first line and the entry dummy's. Assumes nothing.
use Rattle.std.proofs.lemmas.Result.{err_from_is_err_and}
use Rattle.stg.proofs.AllLines.{entry_refused, opened}
use Rattle.stg.proofs.outer_lines.take_opening.Goals as goal

pub returns-in_err-next : goal.returns-in_err-next
returns-in_err-next c =
    let p = err_from_is_err_and c.from_residual-in_err-next.result c.from_residual-in_err-next.ensures.1 in
    rw (p.1, p.2) (entry_refused c.in_ok-first.ensures _ c.in_err-next.ensures)

pub returns : goal.returns
returns c = opened c.in_ok-first.ensures c.in_ok-next.ensures
