-- `list_free`: those that are marked, one by one. Assumes nothing.
use Rattle.std.proofs.Common.{◌-◌}
use Rattle.std.specs.Prelude.{min}
use Rattle.arranged.proofs.NoArrows.{FrontTo}
use Rattle.arranged.proofs.free.list_free.Given as goal

abbrev pub invariant-loop-j : goal.invariant-loop-j
invariant-loop-j l = FrontTo l.fn.side l.initial.arrows l.initial.list l.list (min l.initial.n 256) l.count (l.j - 1)
