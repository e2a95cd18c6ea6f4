-- `check_named`: the reply is that of the rows 1 to 4. Assumes nothing.
use Rattle.std.proofs.lemmas.Result.{err_from_is_err_and}
use Rattle.terms.specs.Refusals.{subtask_rows, size_rows, named_rows}
use Rattle.terms.specs.Replies.{IsCheck}
use Rattle.theory.proofs.Answers.{refused_first, refused_later}
use Rattle.graph.proofs.Replies.{check_later}
use Rattle.graph.proofs.check_named.Goals as goal

pub returns-in_err-check_subtasks : goal.returns-in_err-check_subtasks
unfolding named_rows IsCheck
returns-in_err-check_subtasks c =
    let p = err_from_is_err_and c.from_residual.result c.from_residual.ensures.1 in
    rw (p.1, p.2) (refused_first (subtask_rows _) _ _ c.in_err-check_subtasks.ensures)

pub returns-in_err-check_size : goal.returns-in_err-check_size
unfolding named_rows IsCheck
returns-in_err-check_size c =
    let p = err_from_is_err_and c.from_residual-in_err-check_size.result c.from_residual-in_err-check_size.ensures.1 in
    rw (p.1, p.2) (refused_later (subtask_rows _) _ _ c.in_ok-check_subtasks.ensures (refused_first (size_rows _) _ _ c.in_err-check_size.ensures))

pub check_outside-requires : goal.check_outside-requires
unfolding IsCheck
check_outside-requires c = (c.in_ok-check_subtasks.ensures, c.in_ok-check_size.ensures)

pub returns : goal.returns
unfolding named_rows IsCheck
returns c =
    check_later (subtask_rows _) _ c.check_outside.result c.in_ok-check_subtasks.ensures
    (check_later (size_rows _) _ c.check_outside.result c.in_ok-check_size.ensures c.check_outside.ensures)
