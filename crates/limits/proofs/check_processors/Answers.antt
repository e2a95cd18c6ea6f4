-- `check_processors`: 8 exactly outside the range. Assumes nothing.
use Rattle.std.proofs.Common.{arith}
use Rattle.terms.specs.Refusals.{processor_rows}
use Rattle.terms.specs.Replies.{IsCheck}
use Rattle.terms.proofs.Decisions.{told}
use Rattle.theory.proofs.Answers.{begin, past, stop, done}
use Rattle.limits.proofs.check_processors.Goals as goal

pub returns-then-m-lt1 : goal.returns-then-m-lt1
unfolding IsCheck processor_rows
returns-then-m-lt1 c = stop (begin (processor_rows c.args.m)) (λ h. omega (arith, h.low, h.high, c.then-m-lt1.either)) told

pub returns : goal.returns
unfolding IsCheck processor_rows
returns c = done (past (begin (processor_rows c.args.m)) (λ h. h (record { low = omega arith; high = omega arith })))
