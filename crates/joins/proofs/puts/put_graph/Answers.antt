-- `put_graph`: the arrows of an accepted graph, out of its rows of successors. Assumes nothing.
use Rattle.joins.proofs.Successors.{Successors, successors, same_rows}
use Rattle.joins.proofs.puts.put_graph.Goals as goal

pub put_rows-requires : goal.put_rows-requires
put_rows-requires c =
    let rows : Successors c.args.graph.times.now c.args.graph.arrows.now c.by_from.new.begins c.by_from.new.numbers =
    successors _ _ c.requires.accepted.0 _ _ _ c.by_from.ensures in
    record { small_rows = (rows.small, c.requires.accepted.1); room = rw (same_rows c.args.up c.args.targets.now rows) c.requires.room }

pub returns : goal.returns
returns c =
    let rows : Successors c.args.graph.times.now c.args.graph.arrows.now c.by_from.new.begins c.by_from.new.numbers =
    successors _ _ c.requires.accepted.0 _ _ _ c.by_from.ensures in
    rw (← same_rows c.args.up c.args.targets.now rows) c.put_rows.ensures
