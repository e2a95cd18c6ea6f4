-- `check_on`: the reply is that of the rows 1 to 8. Assumes nothing.
use Rattle.std.proofs.lemmas.Result.{err_from_is_err_and}
use Rattle.terms.specs.Refusals.{graph_rows, processor_rows, on_rows}
use Rattle.terms.specs.Replies.{IsCheck}
use Rattle.theory.proofs.Answers.{refused_first}
use Rattle.graph.proofs.Replies.{check_later}
use Rattle.graph.proofs.check_on.Goals as goal

pub returns-in_err-check : goal.returns-in_err-check
unfolding on_rows IsCheck
returns-in_err-check c =
    let p = err_from_is_err_and c.from_residual.result c.from_residual.ensures.1 in
    rw (p.1, p.2) (refused_first (graph_rows _ _) _ _ c.in_err-check.ensures)

pub returns : goal.returns
unfolding on_rows IsCheck
returns c = check_later (graph_rows _ _) (processor_rows _) c.check_processors.result c.in_ok-check.ensures c.check_processors.ensures
