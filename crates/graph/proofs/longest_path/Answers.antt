-- `longest_path`: the reply has P, or the refusal of the rows 1 to 7. Assumes nothing.
use Rattle.std.proofs.lemmas.Result.{err_from_is_err_and}
use Rattle.terms.specs.Replies.{IsMeasure, IsLongestPath}
use Rattle.graph.proofs.longest_path.Goals as goal

pub returns-in_err-weights : goal.returns-in_err-weights
unfolding IsMeasure IsLongestPath
returns-in_err-weights c =
    let p = err_from_is_err_and c.from_residual.result c.from_residual.ensures.1 in rw (p.1, p.2) c.in_err-weights.ensures

pub returns : goal.returns
unfolding IsMeasure IsLongestPath
returns c = let (accepts, work, path) = c.in_ok-weights.ensures in (accepts, path)
