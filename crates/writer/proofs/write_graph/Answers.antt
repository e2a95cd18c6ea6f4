-- `write_graph`: 1 to 7, then the text or 11. Assumes nothing.
use Rattle.std.proofs.lemmas.Result.{err_from_is_err_and}
use Rattle.terms.specs.Replies.{IsCheck}
use Rattle.writer.proofs.Replied.{refused_graph}
use Rattle.writer.proofs.write_graph.Goals as goal

pub returns-in_err-check : goal.returns-in_err-check
unfolding IsCheck
returns-in_err-check c =
    let p = err_from_is_err_and c.from_residual.result c.from_residual.ensures.1 in
    rw (p.1, p.2) (refused_graph _ _ _ _ c.in_err-check.ensures)

pub write_accepted-requires : goal.write_accepted-requires
unfolding IsCheck
write_accepted-requires c = c.in_ok-check.ensures
