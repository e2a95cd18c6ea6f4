-- `check_outside`: the answer is that of row 4. Assumes nothing.
use Rattle.terms.specs.Replies.{IsCheck}
use Rattle.graph.proofs.ArrowAnswers.{few, all_named, no_outside, some_outside, found_small}
use Rattle.graph.proofs.check_outside.Goals as goal

pub all_join_two-requires : goal.all_join_two-requires
all_join_two-requires c = (few _ _ c.requires).0

pub first_outside-requires : goal.first_outside-requires
first_outside-requires c = (few _ _ c.requires).0

pub returns-then-all_join_two : goal.returns-then-all_join_two
unfolding IsCheck
returns-then-all_join_two c = all_named c.args.times.now _ (rw c.if-all_join_two.true at c.all_join_two.ensures)

pub position_of-requires : goal.position_of-requires
position_of-requires c = found_small c.args.arrows.now _ _ (few _ _ c.requires).1 c.in-Some.ensures

pub returns-in-Some : goal.returns-in-Some
unfolding IsCheck
returns-in-Some c = rw c.position_of.ensures (some_outside c.args.times.now _ _ c.in-Some.ensures)

pub returns-in-None : goal.returns-in-None
unfolding IsCheck
returns-in-None c = no_outside c.args.times.now _ c.in-None.ensures
