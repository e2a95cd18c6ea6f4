-- `first_repeat`: the scan along the chains answers the first arrow that is the same as one before it. Assumes nothing.
use Rattle.graph.proofs.RepeatedArrows.{Before, Met}
use Rattle.graph.proofs.scan.first_repeat.Given as goal

abbrev pub invariant-loop-v : goal.invariant-loop-v
invariant-loop-v l = Before l.initial.graph.arrows.now l.seen l.met l.found l.v

abbrev pub invariant-loop-c : goal.invariant-loop-c
invariant-loop-c l = Met l.initial.graph.arrows.now l.seen l.met l.found l.v l.c

abbrev pub decreases-loop-c : goal.decreases-loop-c
decreases-loop-c l = l.c
