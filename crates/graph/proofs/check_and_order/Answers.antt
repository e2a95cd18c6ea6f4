-- `check_and_order`: the answer is that of the rows 1 to 7; where they accept, the chains and the order are left. Assumes nothing.
use Rattle.std.proofs.lemmas.Result.{err_from_is_err_and}
use Rattle.terms.specs.Refusals.{subtask_rows, size_rows, arrow_rows, graph_rows}
use Rattle.terms.specs.Replies.{IsCheck}
use Rattle.theory.proofs.Answers.{refused_first, refused_later}
use Rattle.graph.specs.Finds.{refused}
use Rattle.graph.proofs.Replies.{finds_later}
use Rattle.graph.proofs.check_and_order.Goals as goal

pub returns-in_err-check_subtasks : goal.returns-in_err-check_subtasks
unfolding graph_rows IsCheck
returns-in_err-check_subtasks c =
    let p = err_from_is_err_and c.from_residual.result c.from_residual.ensures.1 in
    rw (p.1, p.2) (refused (refused_first (subtask_rows _) _ _ c.in_err-check_subtasks.ensures))

pub returns-in_err-check_size : goal.returns-in_err-check_size
unfolding graph_rows IsCheck
returns-in_err-check_size c =
    let p = err_from_is_err_and c.from_residual-in_err-check_size.result c.from_residual-in_err-check_size.ensures.1 in
    let three = refused_first (size_rows _) (arrow_rows _ _) _ c.in_err-check_size.ensures in
    rw (p.1, p.2) (refused (refused_later (subtask_rows _) _ _ c.in_ok-check_subtasks.ensures three))

pub check_arrows-requires-clause-accepted : goal.check_arrows-requires-clause-accepted
unfolding IsCheck
check_arrows-requires-clause-accepted c = (c.in_ok-check_subtasks.ensures, c.in_ok-check_size.ensures)

pub returns : goal.returns
unfolding graph_rows IsCheck
returns c =
    finds_later (subtask_rows _) c.in_ok-check_subtasks.ensures (finds_later (size_rows _) c.in_ok-check_size.ensures c.check_arrows.ensures)
