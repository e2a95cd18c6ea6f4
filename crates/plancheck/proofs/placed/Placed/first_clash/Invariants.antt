-- `first_clash`: the first subtask after i with which i clashes. Assumes nothing.
use Rattle.theory.proofs.Firsts.{NoneTo}
use Rattle.plancheck.specs.Scans.{Clash}
use Rattle.plancheck.proofs.placed.Placed.first_clash.Given as goal

abbrev pub invariant-loop-place : goal.invariant-loop-place
invariant-loop-place l = NoneTo (Clash l.self.times.now l.self.plan.now l.i.0) l.place
