-- `leads_back`: the search meets the root, or has met all that lead to it. Assumes nothing.
use Rattle.std.proofs.Common.{◌-◌, ◌<◌, get_or}
use Rattle.graph.proofs.CycleSearch.{Search, unmet_of}
use Rattle.graph.proofs.cycle.leads_back.Given as goal

-- v has its turn
abbrev pub invariant-loop-from : goal.invariant-loop-from
invariant-loop-from l =
    Search l.initial.graph.n l.initial.graph.arrows.now l.initial.root.0 l.initial.graph.links.now.first l.initial.graph.links.now.next (unmet_of l.met) l.queue l.queued l.done (get_or l.initial.graph.links.now.first l.v 0)
    × (l.v < 257)

abbrev pub decreases-loop-from : goal.decreases-loop-from
decreases-loop-from l = l.initial.graph.n - l.done

abbrev pub invariant-loop-c : goal.invariant-loop-c
invariant-loop-c l =
    Search l.initial.graph.n l.initial.graph.arrows.now l.initial.root.0 l.initial.graph.links.now.first l.initial.graph.links.now.next (unmet_of l.met) l.queue l.queued l.done l.c

abbrev pub decreases-loop-c : goal.decreases-loop-c
decreases-loop-c l = l.c
