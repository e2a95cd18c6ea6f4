-- `some_idles`: none of the subtasks that came so far idles at t. Assumes nothing.
use Rattle.theory.proofs.Firsts.{NoneTo}
use Rattle.plancheck.specs.Scans.{Idles}
use Rattle.plancheck.proofs.placed.Placed.some_idles.Given as goal

abbrev pub invariant-loop-place : goal.invariant-loop-place
invariant-loop-place l = NoneTo (Idles l.self.times.now l.self.plan.now l.self.ready.now l.self.m l.t) l.place
