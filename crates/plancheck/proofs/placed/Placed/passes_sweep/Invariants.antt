-- `passes_sweep`: what the subtasks that came so far show. Assumes nothing.
use Rattle.plancheck.proofs.Swept.{Swept}
use Rattle.plancheck.proofs.placed.Placed.passes_sweep.Given as goal

abbrev pub invariant-loop-x : goal.invariant-loop-x
invariant-loop-x l = Swept l.self.times.now l.self.m l.self.plan.now l.self.ready.now l.row l.until l.before l.slack l.x
