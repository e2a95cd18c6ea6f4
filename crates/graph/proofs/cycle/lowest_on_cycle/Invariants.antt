-- `lowest_on_cycle`: the first subtask that the arrows lead back to. Assumes nothing.
use Rattle.std.proofs.Common.{ℕ, ◌<◌}
use Rattle.terms.specs.Graphs.{LeadsTo}
use Rattle.graph.proofs.cycle.lowest_on_cycle.Given as goal

abbrev pub invariant-loop-j : goal.invariant-loop-j
invariant-loop-j l = (k : ℕ) → k < l.j → ¬ LeadsTo l.initial.graph.arrows.now k k
