-- `take_subtasks`: the lines of all subtasks. Assumes nothing.
use Rattle.std.proofs.Common.{◌≡◌}
use Rattle.stg.proofs.SubtaskLines.{SubtasksLeft}
use Rattle.stg.proofs.tasks.take_subtasks.Given as goal

abbrev pub invariant-loop-j : goal.invariant-loop-j
invariant-loop-j l =
    (l.arrows.row.ghost_name ≡ l.fn.arrows.row.ghost_name)
    × SubtasksLeft l.text l.at l.n l.fn.times l.fn.arrows.row.now l.here l.arrows.count l.j l.times l.arrows.row.now
