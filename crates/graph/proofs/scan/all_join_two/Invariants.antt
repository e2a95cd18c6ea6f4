-- `all_join_two`: whether every arrow goes from one of 1..n to another. Assumes nothing.
use Rattle.graph.specs.Scans.{AllJoin}
use Rattle.graph.proofs.scan.all_join_two.Given as goal

abbrev pub invariant-loop-ends : goal.invariant-loop-ends
invariant-loop-ends l = AllJoin l.initial.n l.initial.arrows l.ends-index l.all
