-- `check_read`: 2 to 7 of a graph that was read, also where it has too many arrows. Assumes nothing.
use Rattle.std.proofs.Common.{arith}
use Rattle.std.proofs.lemmas.Result.{err_from_is_err_and}
use Rattle.terms.specs.Replies.{IsCheck}
use Rattle.stg.proofs.Clipped.{checks_few, checks_three, checks_two}
use Rattle.stg.proofs.check_read.Goals as goal

pub returns-then-a-le-MOST_ARROWS : goal.returns-then-a-le-MOST_ARROWS
returns-then-a-le-MOST_ARROWS c =
    checks_few c.args.times.now c.args.arrows.now c.args.a c.requires.0 _ (omega arith) c.check.ensures

pub returns-in_err-check_subtasks : goal.returns-in_err-check_subtasks
unfolding IsCheck
returns-in_err-check_subtasks c =
    let p = err_from_is_err_and c.from_residual.result c.from_residual.ensures.1 in
    rw (p.1, p.2) (checks_two c.args.times.now c.args.arrows.now c.args.a c.requires.0 _ c.in_err-check_subtasks.ensures)

pub returns : goal.returns
unfolding IsCheck
returns c = checks_three c.args.times.now c.args.arrows.now c.args.a c.requires.0 (omega arith) c.in_ok-check_subtasks.ensures
