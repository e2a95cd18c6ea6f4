-- `longest`: the answer is the longest path. Assumes nothing.
use Rattle.graph.proofs.PathWeights.{Weighed}
use Rattle.graph.proofs.weigh.longest.Given as goal

abbrev pub invariant-loop-entry : goal.invariant-loop-entry
invariant-loop-entry l = Weighed l.initial.times l.initial.graph.arrows.now l.initial.order l.finish l.most l.entry-index
