-- `check_both`: 1 to 7 of the first, then of the second, then 30. Assumes nothing.
use Rattle.std.proofs.lemmas.Result.{err_from_is_err_and}
use Rattle.terms.specs.Replies.{IsCheck}
use Rattle.joins.proofs.Answered.{first_refuses, second_refuses, too_many, both_accepted}
use Rattle.joins.proofs.checks.check_both.Goals as goal

pub returns-in_err-check : goal.returns-in_err-check
unfolding IsCheck
returns-in_err-check c =
    let p = err_from_is_err_and c.from_residual.result c.from_residual.ensures.1 in rw (p.1, p.2) (first_refuses _ _ _ c.in_err-check.ensures)

pub returns-in_err-check-2 : goal.returns-in_err-check-2
unfolding IsCheck
returns-in_err-check-2 c =
    let p = err_from_is_err_and c.from_residual-in_err-check-2.result c.from_residual-in_err-check-2.ensures.1 in
    rw (p.1, p.2) (second_refuses _ _ _ c.in_ok-check.ensures c.in_err-check-2.ensures)

pub returns-then-first-second-gt-MOST_SUBTASKS : goal.returns-then-first-second-gt-MOST_SUBTASKS
unfolding IsCheck
returns-then-first-second-gt-MOST_SUBTASKS c =
    too_many _ _ c.in_ok-check.ensures c.in_ok-check-2.ensures c.if-first-second-gt-MOST_SUBTASKS.true

pub returns : goal.returns
unfolding IsCheck
returns c = both_accepted _ _ c.in_ok-check.ensures c.in_ok-check-2.ensures c.if-first-second-gt-MOST_SUBTASKS.false
