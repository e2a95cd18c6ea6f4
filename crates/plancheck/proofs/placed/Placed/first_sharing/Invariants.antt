-- `first_sharing`: the first two subtasks that clash. Assumes nothing.
use Rattle.theory.proofs.Firsts.{NoneTo}
use Rattle.plancheck.specs.Scans.{Clashes}
use Rattle.plancheck.proofs.placed.Placed.first_sharing.Given as goal

abbrev pub invariant-loop-place : goal.invariant-loop-place
invariant-loop-place l = NoneTo (Clashes l.self.times.now l.self.plan.now) l.place
