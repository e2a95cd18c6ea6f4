-- `check_deadline`: 9 exactly outside the range. Assumes nothing.
use Rattle.std.proofs.Common.{arith}
use Rattle.terms.specs.Refusals.{deadline_rows}
use Rattle.terms.specs.Replies.{IsCheck}
use Rattle.terms.proofs.Decisions.{told}
use Rattle.theory.proofs.Answers.{begin, past, stop, done}
use Rattle.limits.proofs.check_deadline.Goals as goal

pub returns-then-d-lt1 : goal.returns-then-d-lt1
unfolding IsCheck deadline_rows
returns-then-d-lt1 c = stop (begin (deadline_rows c.args.d)) (λ h. omega (arith, h.low, h.high, c.then-d-lt1.either)) told

pub returns : goal.returns
unfolding IsCheck deadline_rows
returns c = done (past (begin (deadline_rows c.args.d)) (λ h. h (record { low = omega arith; high = omega arith })))
