-- `measure_on`: the reply has C and P, or the refusal of the rows 1 to 8. Assumes nothing.
use Rattle.std.proofs.lemmas.Result.{err_from_is_err_and}
use Rattle.terms.specs.Refusals.{graph_rows, processor_rows, on_rows}
use Rattle.terms.specs.Replies.{IsCheck, IsMeasure}
use Rattle.theory.proofs.Answers.{refused_first, refused_later, accepted_join}
use Rattle.graph.proofs.measure_on.Goals as goal

pub returns-in_err-weights : goal.returns-in_err-weights
unfolding on_rows IsMeasure
returns-in_err-weights c =
    let p = err_from_is_err_and c.from_residual.result c.from_residual.ensures.1 in
    rw (p.1, p.2) (refused_first (graph_rows _ _) _ _ c.in_err-weights.ensures)

pub returns-in_err-check_processors : goal.returns-in_err-check_processors
unfolding on_rows IsCheck IsMeasure
returns-in_err-check_processors c =
    let p = err_from_is_err_and c.from_residual-in_err-check_processors.result c.from_residual-in_err-check_processors.ensures.1 in
    let (accepts, work, path) = c.in_ok-weights.ensures in
    rw (p.1, p.2) (refused_later (graph_rows _ _) (processor_rows _) _ accepts c.in_err-check_processors.ensures)

pub returns : goal.returns
unfolding on_rows IsCheck IsMeasure
returns c =
    let (accepts, work, path) = c.in_ok-weights.ensures in
    (accepted_join (graph_rows _ _) (processor_rows _) accepts c.in_ok-check_processors.ensures, work, path)
