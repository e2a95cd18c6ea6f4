-- `leads_back`: the search meets the root, or has met all that lead to it. Assumes nothing.
use Rattle.std.proofs.Common.{ℕ, arith}
use Rattle.std.proofs.lemmas.List.{length-replicate}
use Rattle.graph.proofs.Chained.{Looks, looks}
use Rattle.graph.proofs.CycleSearch.{turn, search_start, search_end, search_back, search_skip, queue_room, search_meet, next_small, search_next}
use Rattle.graph.proofs.cycle.leads_back.Goals.{After-source-from, then-not-met-p, else-not-met-p}
use Rattle.graph.proofs.cycle.leads_back.Goals as goal

-- at an arrow from p
at_arrow : (c : After-source-from) → Looks c.args.graph.now.n c.args.graph.now.arrows.now (turn c.args.root.0 c.loop-c.queue c.loop-from.done) c.loop-c.c c.source-from.result.0
at_arrow c = looks c.loop-c.invariant.tidy c.loop-c.invariant.along c.loop-c-test.true c.source-from.ensures.0

pub loop-from-init : goal.loop-from-init
loop-from-init c = (search_start c.args.graph.now.tidy c.requires c.args.graph.now.linked (length-replicate {A = ℕ} 256 0), omega (arith, c.args.graph.now.tidy.subtasks, c.requires.high))

pub returns-then-p-root : goal.returns-then-p-root
returns-then-p-root c = search_back c.loop-c.invariant (at_arrow (goal.at.returns-then-p-root c).After-source-from) c.if-p-root.true

pub bounds-queue-queued : goal.bounds-queue-queued
bounds-queue-queued c = queue_room c.loop-c.met c.loop-c.invariant (at_arrow (goal.at.bounds-queue-queued c).After-source-from) c.if-not-met-p.true

pub loop-c-preserved : goal.loop-c-preserved
loop-c-preserved c =
    let here = at_arrow (goal.at.loop-c-preserved c).After-source-from in
    rw c.after-c.ensures (elim c.if-not-met-p.branch [
      | then-not-met-p w ↦ rw (w.met-is, w.queue-is, w.queued-is) (search_meet c.loop-c.met c.loop-c.invariant here w.if-not-met-p.true c.if-p-root.false)
      | else-not-met-p w ↦ rw (w.met-is, w.queue-is, w.queued-is) (search_skip c.loop-c.met c.loop-c.invariant here w.if-not-met-p.false)
    ])

pub returns-then-done-queued : goal.returns-then-done-queued
returns-then-done-queued c = search_end c.loop-c.invariant c.loop-c-test.false c.if-done-queued.true

pub loop-from-preserved : goal.loop-from-preserved
loop-from-preserved c = (
  search_next c.loop-c.invariant c.loop-c-test.false c.if-done-queued.false c.from-v.ensures,
  (next_small c.loop-c.invariant c.loop-c-test.false c.if-done-queued.false c.from-v.ensures).1,
)
