-- `chain_arrows`: the arrows as chains by where they come from, and how many go to each subtask. Assumes nothing.
use Rattle.std.proofs.Common.{arith}
use Rattle.terms.specs.Graphs.{from_of, to_of}
use Rattle.listplan.proofs.ChainedArrows.{NextArrow, chained_none, place_in, count_in, chained_more}
use Rattle.listplan.proofs.tables.chain_arrows.Goals as goal

pub loop-i-init : goal.loop-i-init
loop-i-init c = chained_none c.requires.first_value.0 c.requires.first_value.1 c.requires.first_value.2

pub bounds-first-u : goal.bounds-first-u
unfolding from_of to_of
bounds-first-u c = rw c.arrow_of.ensures.begins (c.requires.roomy.from_small _ (omega arith))

pub bounds-first-u-in-loop-i : goal.bounds-first-u-in-loop-i
unfolding from_of to_of
bounds-first-u-in-loop-i c = rw c.arrow_of.ensures.begins (c.requires.roomy.from_small _ (omega arith))

pub bounds-left-to : goal.bounds-left-to
unfolding from_of to_of
bounds-left-to c = rw c.arrow_of.ensures.arrives (c.requires.roomy.to_small _ (omega arith))

pub bounds-left-to-in-loop-i : goal.bounds-left-to-in-loop-i
unfolding from_of to_of
bounds-left-to-in-loop-i c = rw c.arrow_of.ensures.arrives (c.requires.roomy.to_small _ (omega arith))

pub overflow_add-left : goal.overflow_add-left
unfolding from_of to_of
overflow_add-left c =
    let arrow : NextArrow c.args.arrows.now c.loop-i.first c.loop-i.next c.loop-i.left c.loop-i.i c.arrow_of.result.from.0 c.arrow_of.result.to.0 =
    record { so_far = c.loop-i.invariant; roomy = c.requires.roomy; inside = omega arith; begins = c.arrow_of.ensures.begins; arrives = c.arrow_of.ensures.arrives } in
    omega (arith, count_in arrow, place_in arrow)

pub loop-i-preserved : goal.loop-i-preserved
unfolding from_of to_of
loop-i-preserved c =
    let arrow : NextArrow c.args.arrows.now c.loop-i.first c.loop-i.next c.loop-i.left c.loop-i.i c.arrow_of.result.from.0 c.arrow_of.result.to.0 =
    record { so_far = c.loop-i.invariant; roomy = c.requires.roomy; inside = omega arith; begins = c.arrow_of.ensures.begins; arrives = c.arrow_of.ensures.arrives } in
    chained_more arrow
