-- `first_sharing`: the first two subtasks that clash. Assumes nothing.
use Rattle.std.proofs.Common.{arith, below_more}
use Rattle.plancheck.specs.Scans.{FirstClash}
use Rattle.plancheck.proofs.Clashes.{pair_found, no_clashes}
use Rattle.plancheck.proofs.FirstSubtasks.{first_none}
use Rattle.plancheck.proofs.placed.Placed.first_sharing.Goals as goal

pub returns-in-Some : goal.returns-in-Some
returns-in-Some c = pair_found c.loop-place.invariant _ (omega arith) (rw c.in-Some.is at c.first_clash.ensures)

pub loop-place-preserved : goal.loop-place-preserved
loop-place-preserved c = below_more _ _ c.loop-place.invariant (no_clashes (rw c.in_default.is at c.first_clash.ensures))

pub returns : goal.returns
unfolding FirstClash
returns c = first_none _ c.loop-place.invariant (omega arith)
