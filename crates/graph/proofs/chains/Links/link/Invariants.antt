-- `link`: the two tables hold the chains of the arrows. Assumes nothing.
use Rattle.terms.specs.Graphs.{to_of}
use Rattle.graph.specs.Chains.{Chains}
use Rattle.graph.proofs.chains.Links.link.Given as goal

abbrev pub invariant-loop-i : goal.invariant-loop-i
invariant-loop-i l = Chains (to_of l.initial.arrows) l.self.first l.self.next l.i
