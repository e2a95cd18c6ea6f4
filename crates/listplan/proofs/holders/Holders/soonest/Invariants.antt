-- `soonest`: the first of the processors that came so far with the soonest end. Assumes nothing.
use Rattle.std.proofs.Common.{◌-◌}
use Rattle.listplan.specs.Making.{Soonest}
use Rattle.listplan.proofs.holders.Holders.soonest.Given as goal

abbrev pub invariant-loop-p : goal.invariant-loop-p
invariant-loop-p l = Soonest l.self.until (l.p - 1) l.first
