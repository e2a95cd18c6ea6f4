-- `ask`: C and P, or the refusal of the rows 1 to 9. Assumes nothing.
use Rattle.std.proofs.lemmas.Result.{err_from_is_err_and}
use Rattle.terms.specs.Refusals.{on_rows, deadline_rows, verdict_rows}
use Rattle.terms.specs.Replies.{IsCheck, IsMeasure}
use Rattle.theory.proofs.Answers.{refused_first, refused_later, accepted_join}
use Rattle.verdict.proofs.ask.Goals as goal

pub returns-in_err-weights : goal.returns-in_err-weights
unfolding verdict_rows IsMeasure
returns-in_err-weights c =
    let p = err_from_is_err_and c.from_residual.result c.from_residual.ensures.1 in
    rw (p.1, p.2) (refused_first (on_rows _ _ _) _ _ c.in_err-weights.ensures)

pub returns-in_err-check_deadline : goal.returns-in_err-check_deadline
unfolding verdict_rows IsCheck IsMeasure
returns-in_err-check_deadline c =
    let p = err_from_is_err_and c.from_residual-in_err-check_deadline.result c.from_residual-in_err-check_deadline.ensures.1 in
    let (accepts, work, path) = c.in_ok-weights.ensures in
    rw (p.1, p.2) (refused_later (on_rows _ _ _) (deadline_rows _) _ accepts c.in_err-check_deadline.ensures)

pub returns : goal.returns
unfolding verdict_rows IsCheck IsMeasure
returns c =
    let (accepts, work, path) = c.in_ok-weights.ensures in
    (accepted_join (on_rows _ _ _) (deadline_rows _) accepts c.in_ok-check_deadline.ensures, work, path)
