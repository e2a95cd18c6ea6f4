-- `take_predecessors`: the rest of a line, predecessor by predecessor. Assumes nothing.
use Rattle.std.proofs.Common.{◌≡◌, ◌-◌, length}
use Rattle.stg.proofs.RestOfLine.{Passing}
use Rattle.stg.proofs.predecessors.take_predecessors.Given as goal

abbrev pub invariant-loop-next : goal.invariant-loop-next
invariant-loop-next l =
    (l.arrows.row.ghost_name ≡ l.fn.arrows.row.ghost_name)
    × Passing l.text l.at l.i l.fn.arrows.row.now l.fn.arrows.count l.here l.count l.below l.arrows.count l.arrows.row.now

abbrev pub decreases-loop-next : goal.decreases-loop-next
decreases-loop-next l = length l.text - l.here
