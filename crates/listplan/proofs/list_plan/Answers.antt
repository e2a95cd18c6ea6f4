-- `list_plan`: the list plan stands in the row, or the refusal is passed on. Assumes nothing.
use Rattle.std.proofs.Common.{refl, ◌-◌, arith}
use Rattle.std.proofs.lemmas.Result.{err_from_is_err_and}
use Rattle.terms.specs.Graphs.{time_of, In16Bits}
use Rattle.terms.specs.ListRule.{IsOrder}
use Rattle.terms.specs.Replies.{IsCheck}
use Rattle.theory.proofs.Accepted.{sound_on}
use Rattle.theory.proofs.Firsts.{said, unsaid}
use Rattle.theory.proofs.Work.{total_small}
use Rattle.listplan.proofs.Listed.{refused_on, refused_order, refused_room, end_small, listed}
use Rattle.listplan.proofs.list_plan.Goals as goal

pub returns-in_err-check_on : goal.returns-in_err-check_on
unfolding IsCheck
returns-in_err-check_on c =
    let p = err_from_is_err_and c.from_residual.result c.from_residual.ensures.1 in
    rw (p.1, p.2) (refused_on _ _ _ _ _ _ c.in_err-check_on.ensures)

pub is_order-requires : goal.is_order-requires
unfolding IsCheck
is_order-requires c = (sound_on _ _ _ c.in_ok-check_on.ensures).0.count.high

pub returns-then-not-is_order : goal.returns-then-not-is_order
unfolding IsCheck
returns-then-not-is_order c = refused_order _ _ _ _ _ c.in_ok-check_on.ensures (unsaid c.if-not-is_order.true c.is_order.ensures)

pub returns-then-plan-n : goal.returns-then-plan-n
unfolding IsCheck
returns-then-plan-n c =
    let ordered : IsOrder c.args.times.now c.args.order.now = said c.if-not-is_order.false c.is_order.ensures in
    refused_room _ _ _ _ _ c.in_ok-check_on.ensures ordered c.if-plan-n.true

pub make_plan-requires-clause-sound_graph : goal.make_plan-requires-clause-sound_graph
unfolding IsCheck
make_plan-requires-clause-sound_graph c = (sound_on _ _ _ c.in_ok-check_on.ensures).0

pub make_plan-requires-clause-among : goal.make_plan-requires-clause-among
unfolding IsCheck time_of
make_plan-requires-clause-among c =
    let graph = sound_on _ _ _ c.in_ok-check_on.ensures in
    let ordered : IsOrder c.args.times.now c.args.order.now = said c.if-not-is_order.false c.is_order.ensures in
    let bits : In16Bits c.args.times.now = λ j s. omega (arith, c.type_inv.times (j - 1)) in
    (graph.1, ordered, total_small graph.0 bits)

pub overflow_cast-result : goal.overflow_cast-result
unfolding IsCheck time_of
overflow_cast-result c =
    let ordered : IsOrder c.args.times.now c.args.order.now = said c.if-not-is_order.false c.is_order.ensures in
    let bits : In16Bits c.args.times.now = λ j s. omega (arith, c.type_inv.times (j - 1)) in
    omega (arith, end_small bits c.in_ok-check_on.ensures ordered c.make_plan.ensures.list_plan c.make_plan.ensures.whole c.plan_end.ensures)

pub returns : goal.returns
unfolding IsCheck time_of
returns c =
    let ordered : IsOrder c.args.times.now c.args.order.now = said c.if-not-is_order.false c.is_order.ensures in
    let bits : In16Bits c.args.times.now = λ j s. omega (arith, c.type_inv.times (j - 1)) in
    listed bits c.in_ok-check_on.ensures ordered c.make_plan.ensures.list_plan c.make_plan.ensures.whole c.plan_end.ensures _ _ c.if-plan-n.false refl
