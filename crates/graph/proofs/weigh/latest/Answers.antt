-- `latest`: the answer is the largest finish of the predecessors. Assumes nothing.
use Rattle.theory.proofs.Rounds.{both}
use Rattle.graph.proofs.Chained.{Looks, looks}
use Rattle.graph.proofs.PathWeights.{looked_start, looked_more}
use Rattle.graph.proofs.weigh.latest.Goals.{After-source-from}
use Rattle.graph.proofs.weigh.latest.Goals as goal

-- at the arrow at the cursor, which comes from p
at_arrow : (c : After-source-from) → Looks c.args.graph.now.n c.args.graph.now.arrows.now c.args.v.0 c.loop-c.c c.source-from.result.0
at_arrow c = looks c.args.graph.now.tidy c.loop-c.invariant.along c.loop-c-test.true c.source-from.ensures.0

pub loop-c-init : goal.loop-c-init
loop-c-init c = rw c.begin-c.ensures (looked_start c.args.graph.now.tidy c.args.graph.now.linked _ c.requires)

pub returns : goal.returns
returns c = rw c.loop-c-test.false at c.loop-c.invariant.latest

turns : goal.loop-c-preserved × goal.loop-c-smaller
turns = both (λ c. rw c.after-c.ensures (looked_more c.loop-c.invariant (at_arrow (goal.at.loop-c-preserved c).After-source-from) c.max-most.ensures))

pub loop-c-smaller : goal.loop-c-smaller
loop-c-smaller = turns.1

pub loop-c-preserved : goal.loop-c-preserved
loop-c-preserved = turns.0
