-- `order_subtasks`: the walk leaves the order, or ends at a cycle. Assumes nothing.
use Rattle.std.proofs.Common.{◌≡◌, refl, ◌+◌, ◌-◌, ℕ, arith}
use Rattle.std.proofs.lemmas.List.{length-replicate}
use Rattle.std.specs.Prelude.{◌≢◌}
use Rattle.theory.proofs.Rounds.{both}
use Rattle.graph.proofs.Chained.{Looks, looks}
use Rattle.graph.proofs.Walk.{state_start, state_end}
use Rattle.graph.proofs.WalkPasses.{state_skip, state_cycle}
use Rattle.graph.proofs.WalkEnters.{state_root, state_enter, state_on}
use Rattle.graph.proofs.WalkPlaces.{end_small, state_home, back_is, state_back}
use Rattle.graph.proofs.order.order_subtasks.Goals.{After-source-from}
use Rattle.graph.proofs.order.order_subtasks.Goals as goal

-- at an arrow to u
at_arrow : (c : After-source-from) → Looks c.args.graph.now.n c.args.graph.now.arrows.now c.loop-c.u c.loop-c.c c.source-from.result.0
at_arrow c = looks c.args.graph.now.tidy c.loop-c.invariant.0.at.along c.if-c-ne0.true c.source-from.ensures.0

pub loop-root-init : goal.loop-root-init
loop-root-init c = state_start c.args.graph.now.tidy c.args.graph.now.linked c.requires (length-replicate {A = ℕ} 256 0)

pub loop-c-init : goal.loop-c-init
loop-c-init c =
    let e : c.loop-root.root - 1 + 1 ≡ c.loop-root.root = omega arith in
    let more : c.loop-root.root - 1 ≢ c.args.graph.now.n = λ q. omega (arith, q) in
    (rw c.begin-c.ensures (rw e at (state_enter c.loop-root.invariant refl more (rw e c.if-mark-root-ne1.false))).0, λ z. omega (arith, z))

pub loop-c-smaller-then-m-eq0 : goal.loop-c-smaller-then-m-eq0
loop-c-smaller-then-m-eq0 c =
    rw c.after-c.ensures (state_skip c.loop-c.invariant.0 (at_arrow (goal.at.loop-c-smaller-then-m-eq0 c).After-source-from) c.if-m-eq0.true).1

goes_on : goal.loop-c-preserved-then-m-eq1 × goal.loop-c-smaller-then-m-eq1
goes_on = both (λ c.
    let at = at_arrow (goal.at.loop-c-preserved-then-m-eq1 c).After-source-from in
    let s = state_on c.loop-c.invariant.0 at c.if-m-eq1.true in
    rw c.begin-c-then-m-eq1.ensures ((s.0, λ z. omega (arith, z, at.from_is.low)), s.1))

pub loop-c-preserved-then-m-eq1 : goal.loop-c-preserved-then-m-eq1
loop-c-preserved-then-m-eq1 = goes_on.0

pub loop-c-smaller-then-m-eq1 : goal.loop-c-smaller-then-m-eq1
loop-c-smaller-then-m-eq1 = goes_on.1

pub returns-else-m-eq1 : goal.returns-else-m-eq1
returns-else-m-eq1 c =
    state_cycle c.loop-c.invariant.0 (at_arrow (goal.at.returns-else-m-eq1 c).After-source-from) c.if-m-eq0.false c.if-m-eq1.false

pub bounds-order-placed : goal.bounds-order-placed
bounds-order-placed c = (end_small c.loop-c.invariant.0 c.if-c-ne0.false c.loop-c.invariant.1).2

goes_back : goal.loop-c-preserved × goal.loop-c-smaller
goes_back = both (λ c.
    let s = state_back c.loop-c.invariant.0 c.if-c-ne0.false c.loop-c.invariant.1 c.if-depth-eq0.false c.from-a.ensures c.sink-to.ensures.0 in
    rw c.after-c-else-c-ne0.ensures ((s.0, back_is c.loop-c.invariant.0 c.if-c-ne0.false c.loop-c.invariant.1 c.if-depth-eq0.false c.from-a.ensures c.sink-to.ensures.0), s.1))

pub loop-c-preserved : goal.loop-c-preserved
loop-c-preserved = goes_back.0

pub loop-c-smaller : goal.loop-c-smaller
loop-c-smaller = goes_back.1

pub loop-root-preserved : goal.loop-root-preserved
loop-root-preserved c =
    let e : c.loop-root.root + 1 - 1 ≡ c.loop-root.root = omega arith in
    let s = state_home c.loop-c.invariant.0 c.if-c-ne0.false c.loop-c.invariant.1 c.if-depth-eq0.true in
    rw e (rw (c.if-depth-eq0.true, c.if-c-ne0.false) at s.0)

pub returns-then-mark-root-ne1 : goal.returns-then-mark-root-ne1
returns-then-mark-root-ne1 c =
    let e : c.loop-root.root - 1 + 1 ≡ c.loop-root.root = omega arith in
    let more : c.loop-root.root - 1 ≢ c.args.graph.now.n = λ q. omega (arith, q) in
    state_end (state_root c.loop-root.invariant refl more (rw e c.if-mark-root-ne1.true)).0 refl (omega (arith))

pub returns-then-depth-eq0 : goal.returns-then-depth-eq0
returns-then-depth-eq0 c =
    state_end (state_home c.loop-c.invariant.0 c.if-c-ne0.false c.loop-c.invariant.1 c.if-depth-eq0.true).0 refl (omega arith)
