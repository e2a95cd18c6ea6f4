-- `refuse_ends`: 4 at the first arrow that names a subtask outside, else 5 at the first from a subtask to itself. Assumes nothing.
use Rattle.graph.specs.Finds.{names_outside, none_outside}
use Rattle.graph.proofs.ArrowAnswers.{some_loop, found_small}
use Rattle.graph.proofs.refuse_ends.Goals as goal

pub position_of-requires : goal.position_of-requires
position_of-requires c = found_small c.args.arrows.now _ _ c.requires.few.1 c.in-Some.ensures

pub returns-in-Some : goal.returns-in-Some
returns-in-Some c = rw c.position_of.ensures (names_outside _ c.in-Some.ensures)

pub unreachable-requires : goal.unreachable-requires
unreachable-requires c = some_loop c.args.n c.args.arrows.now c.requires.wrong c.in_default.ensures c.in_default-first_loop.ensures

pub position_of-requires-2 : goal.position_of-requires-2
position_of-requires-2 c = found_small c.args.arrows.now _ _ c.requires.few.1 c.in-Some-first_loop.ensures

pub returns : goal.returns
returns c = rw c.position_of-2.ensures (none_outside _ c.in_default.ensures c.in-Some-first_loop.ensures)
