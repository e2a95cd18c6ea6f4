-- `check_size`: 3 exactly above 2,048 arrows. Assumes nothing.
use Rattle.std.proofs.Common.{arith}
use Rattle.terms.specs.Refusals.{size_rows}
use Rattle.terms.specs.Replies.{IsCheck}
use Rattle.terms.proofs.Decisions.{told}
use Rattle.theory.proofs.Answers.{begin, past, stop, done}
use Rattle.limits.proofs.check_size.Goals as goal

pub returns-then-arrows-gt-MOST_ARROWS : goal.returns-then-arrows-gt-MOST_ARROWS
unfolding IsCheck size_rows
returns-then-arrows-gt-MOST_ARROWS c = stop (begin (size_rows c.args.arrows.now)) c.if-arrows-gt-MOST_ARROWS.true told

pub returns : goal.returns
unfolding IsCheck size_rows
returns c = done (past (begin (size_rows c.args.arrows.now)) (λ h. omega (arith, h, c.if-arrows-gt-MOST_ARROWS.false)))
