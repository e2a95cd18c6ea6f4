-- `latest_ends`: the row holds the latest end of a predecessor by the arrows that came so far. Assumes nothing.
use Rattle.plancheck.specs.Known.{LatestEnds}
use Rattle.plancheck.proofs.scan.latest_ends.Given as goal

abbrev pub invariant-loop-ends : goal.invariant-loop-ends
invariant-loop-ends l = LatestEnds l.times l.arrows l.plan l.ends-index l.ready
