-- `sink`: where the arrow at a position goes to. Assumes nothing.
use Rattle.terms.specs.Graphs.{to_of}
use Rattle.graph.proofs.chains.Chained.sink.Goals as goal

pub returns : goal.returns
unfolding to_of
returns c = (c.arrow_of.ensures.arrives, c.arrow_of.ensures.arrives_small)
