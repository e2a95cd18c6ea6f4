-- `check_made`: the answer of the rows 31 and 11. Assumes nothing.
use Rattle.std.proofs.Common.{arith, inl, inr, ⊎_elim}
use Rattle.terms.specs.Replies.{IsCheck}
use Rattle.terms.specs.declared.Refusal.TheVariants.{JoinedArrows}
use Rattle.terms.proofs.Decisions.{told}
use Rattle.theory.proofs.Answers.{begin, past, stop, done}
use Rattle.joins.specs.Tables.{made_rows}
use Rattle.joins.proofs.checks.check_made.Goals as goal

pub returns-then-many-gt-MOST_ARROWS : goal.returns-then-many-gt-MOST_ARROWS
unfolding IsCheck made_rows
returns-then-many-gt-MOST_ARROWS c = stop {a = JoinedArrows} (begin (made_rows _ _ _ _)) c.if-many-gt-MOST_ARROWS.true told

pub returns-then-times-n : goal.returns-then-times-n
unfolding IsCheck made_rows
returns-then-times-n c =
    stop (past (begin _) (λ h. omega (arith, h, c.if-many-gt-MOST_ARROWS.false))) (⊎_elim (λ s. inl s) (λ s. inr s.1) c.then-times-n.either) told

pub returns : goal.returns
unfolding IsCheck made_rows
returns c =
    done (past (past (begin _) (λ h. omega (arith, h, c.if-many-gt-MOST_ARROWS.false)))
    (λ h. ⊎_elim (λ s. omega (arith, s, c.if-times-n.false)) (λ s. omega (arith, s, c.if-arrows-many.false)) h))
