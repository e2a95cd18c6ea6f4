-- `side_by_side`: the table of a join, or the two graphs beside each other. Assumes nothing.
use Rattle.std.proofs.Common.{refl, arith}
use Rattle.std.proofs.lemmas.Result.{err_from_is_err_and}
use Rattle.terms.specs.Joins.{side_by_side}
use Rattle.terms.specs.Replies.{IsCheck}
use Rattle.joins.proofs.Joining.{refused_both, joins_by, joined_by}
use Rattle.joins.proofs.side_by_side.Goals as goal

pub join_to-requires : goal.join_to-requires
unfolding IsCheck
join_to-requires c = record { joinable = joins_by _ _ c.in_ok-check_both.ensures side_by_side refl; added_value = omega arith }

pub returns-in_err-check_both : goal.returns-in_err-check_both
unfolding IsCheck
returns-in_err-check_both c =
    let p = err_from_is_err_and c.from_residual.result c.from_residual.ensures.1 in
    rw (p.1, p.2) (refused_both _ _ side_by_side _ _ _ c.in_err-check_both.ensures)

pub returns : goal.returns
returns c = joined_by _ _ side_by_side _ _ _ _ _ refl c.join_to.ensures
