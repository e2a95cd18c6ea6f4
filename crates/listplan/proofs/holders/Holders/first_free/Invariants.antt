-- `first_free`: none of the processors that came so far is free. Assumes nothing.
use Rattle.std.proofs.Common.{◌+◌, ◌≤◌}
use Rattle.theory.specs.First.{NoneBelow}
use Rattle.listplan.specs.Making.{IsFree}
use Rattle.listplan.proofs.holders.Holders.first_free.Given as goal

abbrev pub invariant-loop-p : goal.invariant-loop-p
invariant-loop-p l = (1 ≤ l.p) × NoneBelow (IsFree l.self.who) (l.m + 1) l.p
