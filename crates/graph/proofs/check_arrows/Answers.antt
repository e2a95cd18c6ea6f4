-- `check_arrows`: the answer is that of the rows 4 to 7; where they accept, the chains and the order are left. Assumes nothing.
use Rattle.std.proofs.Common.{arith}
use Rattle.terms.specs.Refusals.{arrow_rows}
use Rattle.theory.proofs.Answers.{Before}
use Rattle.graph.specs.Finds.{refused, sound}
use Rattle.graph.proofs.ArrowAnswers.{few, refused_ends, Joined, joined, refused_6, before_7, refused_7, accepted, some_lowest, lowest_small, found_small}
use Rattle.graph.proofs.check_arrows.Goals.{Else-not-all_join_two}
use Rattle.graph.proofs.check_arrows.Goals as goal

-- where all arrows join two subtasks
joins : (c : Else-not-all_join_two) → Joined c.args.times.now c.args.arrows.now
joins c = joined _ _ c.requires.accepted c.if-not-all_join_two.ensures

pub all_join_two-requires : goal.all_join_two-requires
all_join_two-requires c = (few _ _ c.requires.accepted).0

pub refuse_ends-requires : goal.refuse_ends-requires
refuse_ends-requires c = record { few = few _ _ c.requires.accepted; wrong = c.if-not-all_join_two.ensures }

pub returns-then-not-all_join_two : goal.returns-then-not-all_join_two
returns-then-not-all_join_two c = refused (refused_ends _ _ c.refuse_ends.ensures)

pub link-requires : goal.link-requires
link-requires c =
    record { tidy = (joins (goal.at.link-requires c).Else-not-all_join_two).tidy; empty = c.requires.empty.0 }

pub invariant_of-graph : goal.invariant_of-graph
invariant_of-graph c = record { tidy = (joins (goal.at.invariant_of-graph c).Else-not-all_join_two).tidy; linked = c.link.ensures }

pub position_of-requires : goal.position_of-requires
position_of-requires c = found_small c.args.arrows.now _ _ (few _ _ c.requires.accepted).1 c.in-Some.ensures

pub returns-in-Some : goal.returns-in-Some
returns-in-Some c =
    rw c.position_of.ensures (refused (refused_6 _ _ (joins (goal.at.returns-in-Some c).Else-not-all_join_two) _ c.in-Some.ensures))

pub returns-in-Ok : goal.returns-in-Ok
returns-in-Ok c =
    let once : Before 7 (arrow_rows c.args.times.now c.args.arrows.now) = before_7 _ _ (joins (goal.at.returns-in-Ok c).Else-not-all_join_two) c.in_default.ensures in
    sound (accepted _ _ once (joins (goal.at.returns-in-Ok c).Else-not-all_join_two).tidy c.in-Ok.ensures) c.link.ensures c.in-Ok.ensures

-- a subtask's number is no larger than 256
pub overflow_cast-result : goal.overflow_cast-result
overflow_cast-result c =
    omega (arith, lowest_small (joins (goal.at.overflow_cast-result c).Else-not-all_join_two).tidy _ c.in-Some-lowest_on_cycle.ensures)

pub unreachable-requires : goal.unreachable-requires
unreachable-requires c =
    some_lowest (joins (goal.at.unreachable-requires c).Else-not-all_join_two).tidy c.in-Err.ensures.cycle c.in-None.ensures

pub returns-in-Some-lowest_on_cycle : goal.returns-in-Some-lowest_on_cycle
returns-in-Some-lowest_on_cycle c =
    let once : Before 7 (arrow_rows c.args.times.now c.args.arrows.now) = before_7 _ _ (joins (goal.at.returns-in-Some-lowest_on_cycle c).Else-not-all_join_two) c.in_default.ensures in
    refused (refused_7 _ _ once (joins (goal.at.returns-in-Some-lowest_on_cycle c).Else-not-all_join_two).tidy _ c.in-Some-lowest_on_cycle.ensures)
