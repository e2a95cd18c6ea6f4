-- `earliest_idle`: the earliest of 0 and the ends that came so far at which a subtask idles. Assumes nothing.
use Rattle.plancheck.specs.Scans.{Earliest}
use Rattle.plancheck.proofs.placed.Placed.earliest_idle.Given as goal

abbrev pub invariant-loop-place : goal.invariant-loop-place
invariant-loop-place l = Earliest l.self.times.now l.self.plan.now l.self.ready.now l.self.m l.place l.found
