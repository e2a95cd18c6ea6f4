-- `all_join_two`: whether every arrow goes from one of 1..n to another. Assumes nothing.
use Rattle.graph.proofs.WrongEnds.{join_more}
use Rattle.graph.proofs.scan.all_join_two.Goals as goal

pub loop-ends-preserved : goal.loop-ends-preserved
loop-ends-preserved c = join_more _ c.args.arrows.now _ _ _ c.loop-ends.invariant c.joins_two-all.ensures
