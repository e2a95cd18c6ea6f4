-- `first`: the places that came so far are not marked. Assumes nothing.
use Rattle.std.proofs.Common.{◌-◌}
use Rattle.listplan.proofs.Scans.{Unmarked}
use Rattle.listplan.proofs.marks.Marks.first.Given as goal

abbrev pub invariant-loop-x : goal.invariant-loop-x
invariant-loop-x l = Unmarked l.self-inside.places l.x

abbrev pub decreases-loop-x : goal.decreases-loop-x
decreases-loop-x l = l.n - l.x
