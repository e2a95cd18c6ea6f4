-- `end_to_end`: the table of a join, or the joined graph with an arrow from each last to each first. Assumes nothing.
use Rattle.std.proofs.lemmas.Result.{err_from_is_err_and}
use Rattle.terms.specs.Joins.{end_to_end}
use Rattle.terms.specs.Replies.{IsCheck}
use Rattle.joins.proofs.Joining.{refused_both, joins_by, ended, begun, added_listed, joined_by}
use Rattle.joins.proofs.end_to_end.Goals as goal

pub returns-in_err-check_both : goal.returns-in_err-check_both
unfolding IsCheck
returns-in_err-check_both c =
    let p = err_from_is_err_and c.from_residual.result c.from_residual.ensures.1 in
    rw (p.1, p.2) (refused_both _ _ end_to_end _ _ _ c.in_err-check_both.ensures)

pub join_to-requires : goal.join_to-requires
unfolding IsCheck
join_to-requires c =
    let targets = begun _ _ c.in_ok-check_both.ensures c.firsts-count.ensures in
    record {
      joinable = joins_by _ _ c.in_ok-check_both.ensures end_to_end targets.same;
      added_value = added_listed (ended _ _ c.in_ok-check_both.ensures c.lasts-ends.ensures) targets;
    }

pub returns : goal.returns
unfolding IsCheck
returns c = joined_by _ _ end_to_end _ _ _ _ _ (begun _ _ c.in_ok-check_both.ensures c.firsts-count.ensures).same c.join_to.ensures
