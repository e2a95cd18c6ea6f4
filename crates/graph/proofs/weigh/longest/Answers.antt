-- `longest`: the answer is the longest path. Assumes nothing.
use Rattle.std.proofs.Common.{◌∙◌, ◌<◌, ◌≤◌, length, arith}
use Rattle.std.proofs.lemmas.List.{length-take-le, get_or-take}
use Rattle.graph.proofs.PathWeights.{weighed_start, weighed_more, weighed_end}
use Rattle.graph.proofs.weigh.longest.Goals as goal

pub loop-entry-init : goal.loop-entry-init
loop-entry-init c = weighed_start (rw c.requires.subtasks.0 at c.args.graph.now.tidy) c.requires.ordered

pub loop-entry-preserved : goal.loop-entry-preserved
loop-entry-preserved c =
    let few : length c.args.times.now ≤ length c.args.order.now = omega (arith, c.args.graph.now.tidy.subtasks, c.requires.subtasks.0) in
    let l : c.loop-entry.entry-index < length c.args.times.now = omega (arith, length-take-le _ c.args.order.now few) in
    weighed_more c.loop-entry.invariant l (c.from-v.ensures ∙ get_or-take _ c.args.order.now c.loop-entry.entry-index 0 l)
    c.latest-before.ensures c.time_of-time.ensures c.max-most.ensures

pub returns : goal.returns
returns c =
    let few : length c.args.times.now ≤ length c.args.order.now = omega (arith, c.args.graph.now.tidy.subtasks, c.requires.subtasks.0) in
    weighed_end c.loop-entry.invariant c.requires.subtasks.1 (omega (arith, length-take-le _ c.args.order.now few))
