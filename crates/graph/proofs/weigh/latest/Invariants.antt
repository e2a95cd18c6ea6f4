-- `latest`: the answer is the largest finish of the predecessors. Assumes nothing.
use Rattle.graph.proofs.PathWeights.{LookedAt}
use Rattle.graph.proofs.weigh.latest.Given as goal

abbrev pub invariant-loop-c : goal.invariant-loop-c
invariant-loop-c l = LookedAt l.initial.graph.n l.initial.graph.arrows.now l.initial.graph.links.now.first l.initial.graph.links.now.next l.initial.finish l.fn.v.0 l.c l.most

abbrev pub decreases-loop-c : goal.decreases-loop-c
decreases-loop-c l = l.c
