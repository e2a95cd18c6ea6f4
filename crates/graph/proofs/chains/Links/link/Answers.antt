-- `link`: the two tables hold the chains of the arrows. Assumes nothing.
use Rattle.std.proofs.Common.{◌<◌, arith}
use Rattle.terms.specs.Graphs.{to_of}
use Rattle.graph.proofs.Chained.{chains_none, chains_more, to_small}
use Rattle.graph.proofs.chains.Links.link.Goals as goal

pub loop-i-init : goal.loop-i-init
loop-i-init c = chains_none _ _ _ c.requires.empty.0 c.requires.empty.1

pub bounds-self-v : goal.bounds-self-v
unfolding to_of
bounds-self-v c = to_small c.requires.tidy _ _ c.loop-i-test.true c.arrow_of-v.ensures.arrives

pub bounds-self-v-in-loop-i : goal.bounds-self-v-in-loop-i
unfolding to_of
bounds-self-v-in-loop-i c = to_small c.requires.tidy _ _ c.loop-i-test.true c.arrow_of-v.ensures.arrives

pub loop-i-preserved : goal.loop-i-preserved
unfolding to_of
loop-i-preserved c =
    let small : c.arrow_of-v.result.to.0 < 257 = to_small c.requires.tidy _ _ c.loop-i-test.true c.arrow_of-v.ensures.arrives in
    chains_more _ _ _ _ _ c.arrow_of-v.ensures.arrives small (omega (arith, c.requires.tidy.few)) c.loop-i.invariant
