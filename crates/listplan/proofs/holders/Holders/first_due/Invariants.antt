-- `first_due`: none of the processors that came so far has an end by t. Assumes nothing.
use Rattle.std.proofs.Common.{◌+◌, ◌≤◌}
use Rattle.theory.specs.First.{NoneBelow}
use Rattle.listplan.specs.Making.{IsDue}
use Rattle.listplan.proofs.holders.Holders.first_due.Given as goal

abbrev pub invariant-loop-p : goal.invariant-loop-p
invariant-loop-p l = (1 ≤ l.p) × NoneBelow (IsDue l.self.until l.t) (l.m + 1) l.p
