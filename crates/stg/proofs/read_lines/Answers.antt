-- `read_lines`: the opening and the lines after it leave the whole reading. Assumes nothing.
use Rattle.std.proofs.lemmas.Result.{err_from_is_err_and}
use Rattle.stg.proofs.AllLines.{opening_refused}
use Rattle.stg.proofs.read_lines.Goals as goal

pub returns-in_err-first : goal.returns-in_err-first
returns-in_err-first c =
    let p = err_from_is_err_and c.from_residual.result c.from_residual.ensures.1 in
    rw (p.1, p.2) (opening_refused _ _ _ _ _ _ c.in_err-first.ensures)
