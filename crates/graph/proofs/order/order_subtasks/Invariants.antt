-- `order_subtasks`: the walk leaves the order, or ends at a cycle. Assumes nothing.
use Rattle.std.proofs.Common.{◌-◌}
use Rattle.std.specs.Prelude.{◌≢◌}
use Rattle.graph.proofs.Walk.{State, left}
use Rattle.graph.proofs.order.order_subtasks.Given as goal

-- no way is begun
abbrev pub invariant-loop-root : goal.invariant-loop-root
invariant-loop-root l =
    State l.initial.graph.n l.initial.graph.arrows.now l.initial.graph.links.now.first l.initial.graph.links.now.next l.order l.mark l.stack 0 l.placed (l.root - 1) 0 0

-- the way ends at u
abbrev pub invariant-loop-c : goal.invariant-loop-c
invariant-loop-c l =
    State l.initial.graph.n l.initial.graph.arrows.now l.initial.graph.links.now.first l.initial.graph.links.now.next l.order l.mark l.stack l.depth l.placed l.root l.u l.c × (l.u ≢ 0)

abbrev pub decreases-loop-c : goal.decreases-loop-c
decreases-loop-c l = left l.initial.graph.n l.initial.graph.arrows.now l.mark l.root l.c
