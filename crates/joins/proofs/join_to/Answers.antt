-- `join_to`: the refusal of 31 or 11, or the joined graph in the two rows. Assumes nothing.
use Rattle.std.proofs.Common.{arith}
use Rattle.std.proofs.lemmas.Result.{err_from_is_err_and}
use Rattle.terms.specs.Replies.{IsCheck}
use Rattle.joins.proofs.Joining.{added_few, few_arrows_lem, join_refused, join_room, join_made}
use Rattle.joins.proofs.join_to.Goals as goal

pub overflow_add-many-2 : goal.overflow_add-many-2
overflow_add-many-2 c =
    let few = few_arrows_lem c.requires.joinable in
    omega (arith, added_few c.requires.joinable c.requires.added_value, few.0, few.1)

pub put_joined-requires : goal.put_joined-requires
unfolding IsCheck
put_joined-requires c =
    let room = join_room c.requires.joinable c.requires.added_value c.args.times.now c.args.arrows.now c.in_ok-check_made.ensures in
    record { joinable = c.requires.joinable; room = room.0; room_for_arrows = room.1 }

pub returns-in_err-check_made : goal.returns-in_err-check_made
unfolding IsCheck
returns-in_err-check_made c =
    let p = err_from_is_err_and c.from_residual.result c.from_residual.ensures.1 in
    rw (p.1, p.2) (join_refused c.requires.joinable c.requires.added_value _ _ _ c.in_err-check_made.ensures)

pub returns : goal.returns
unfolding IsCheck
returns c =
    join_made c.requires.joinable c.requires.added_value _ _ c.in_ok-check_made.ensures c.put_joined.ensures.times_after c.put_joined.ensures.arrows_after
