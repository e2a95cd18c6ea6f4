-- `source`: where the arrow at a position comes from. Assumes nothing.
use Rattle.terms.specs.Graphs.{from_of}
use Rattle.graph.proofs.chains.Chained.source.Goals as goal

pub returns : goal.returns
unfolding from_of
returns c = (c.arrow_of.ensures.begins, c.arrow_of.ensures.begins_small)
