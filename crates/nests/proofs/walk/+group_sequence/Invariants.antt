-- `sequence_at` and `group_at`: what opens at a place, with a depth that falls from call to call. Assumes nothing.
use Rattle.std.specs.Prelude.{◌-◌}
use Rattle.terms.specs.Joins.{end_to_end, side_by_side}
use Rattle.nests.proofs.Passed.{Passes}
use Rattle.nests.proofs.walk.+group_sequence.Given as goal

abbrev pub decreases-sequence_at : goal.decreases-sequence_at
decreases-sequence_at l = l.depth

abbrev pub invariant-sequence_at-loop : goal.invariant-sequence_at-loop
invariant-sequence_at-loop l = Passes end_to_end (l.initial.depth - 1) l.initial.row l.initial.at l.counter l.walk.next l.walk.c l.walk.p

abbrev pub decreases-group_at : goal.decreases-group_at
decreases-group_at l = l.depth

abbrev pub invariant-group_at-loop : goal.invariant-group_at-loop
invariant-group_at-loop l = Passes side_by_side (l.initial.depth - 1) l.initial.row l.initial.at l.counter l.walk.next l.walk.c l.walk.p
