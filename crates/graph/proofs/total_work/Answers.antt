-- `total_work`: the reply has C, or the refusal of the rows 1 to 7. Assumes nothing.
use Rattle.std.proofs.lemmas.Result.{err_from_is_err_and}
use Rattle.terms.specs.Replies.{IsCheck, IsTotalWork}
use Rattle.graph.proofs.Replies.{sized}
use Rattle.graph.proofs.total_work.Goals as goal

pub returns-in_err-check : goal.returns-in_err-check
unfolding IsCheck IsTotalWork
returns-in_err-check c = let p = err_from_is_err_and c.from_residual.result c.from_residual.ensures.1 in rw (p.1, p.2) c.in_err-check.ensures

pub total-requires : goal.total-requires
unfolding IsCheck
total-requires c = (sized _ _ c.in_ok-check.ensures).0.subtasks

pub returns : goal.returns
unfolding IsCheck IsTotalWork
returns c = (c.in_ok-check.ensures, c.total.ensures)
