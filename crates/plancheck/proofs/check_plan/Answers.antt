-- `check_plan`: a refusal is passed on; else where the plan ends. Assumes nothing.
use Rattle.std.proofs.Common.{◌-◌, arith}
use Rattle.std.proofs.lemmas.Result.{err_from_is_err_and}
use Rattle.terms.specs.Graphs.{time_of}
use Rattle.terms.specs.Replies.{IsCheck, IsChecked}
use Rattle.plancheck.proofs.Replied.{refused_on, refused_12, given_by, ends_as, end_small}
use Rattle.plancheck.proofs.check_plan.Goals as goal

pub returns-in_err-check_on : goal.returns-in_err-check_on
unfolding IsCheck
returns-in_err-check_on c =
    let p = err_from_is_err_and c.from_residual.result c.from_residual.ensures.1 in
    rw (p.1, p.2) (refused_on _ _ _ _ _ c.in_err-check_on.ensures)

pub returns-then-plan-times : goal.returns-then-plan-times
unfolding IsCheck
returns-then-plan-times c = refused_12 _ _ _ _ c.in_ok-check_on.ensures c.if-plan-times.true

pub check_placing-requires : goal.check_placing-requires
unfolding IsCheck
check_placing-requires c = given_by c.in_ok-check_on.ensures c.if-plan-times.false

pub returns-in_err-check_placing : goal.returns-in_err-check_placing
unfolding IsCheck IsChecked
returns-in_err-check_placing c =
    let p = err_from_is_err_and c.from_residual-in_err-check_placing.result c.from_residual-in_err-check_placing.ensures.1 in
    rw (p.1, p.2) c.in_err-check_placing.ensures

pub overflow_cast-result : goal.overflow_cast-result
unfolding IsCheck time_of
overflow_cast-result c =
    omega (
      arith,
      end_small (given_by c.in_ok-check_on.ensures c.if-plan-times.false) c.plan_end.ensures c.in_ok-check_placing.ensures
          (λ j s. omega (arith, c.type_inv.times (j - 1))),
    )

pub returns : goal.returns
unfolding IsCheck
returns c = ends_as (given_by c.in_ok-check_on.ensures c.if-plan-times.false) c.plan_end.ensures c.in_ok-check_placing.ensures
