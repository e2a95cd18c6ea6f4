-- `measure`: the reply has C and P, or the refusal of the rows 1 to 7. Assumes nothing.
use Rattle.std.proofs.Common.{refl}
use Rattle.std.proofs.lemmas.Result.{err_from_is_err_and}
use Rattle.terms.specs.Replies.{IsMeasure}
use Rattle.graph.proofs.Replies.{finds_sound, finds_refused, sized}
use Rattle.graph.proofs.measure.Goals as goal

pub returns-in_err-check_and_order : goal.returns-in_err-check_and_order
unfolding IsMeasure
returns-in_err-check_and_order c =
    let p = err_from_is_err_and c.from_residual.result c.from_residual.ensures.1 in
    rw (p.1, p.2) (finds_refused c.in_err-check_and_order.ensures)

pub total-requires : goal.total-requires
total-requires c = (sized _ _ (finds_sound c.in_ok-check_and_order.ensures).0).0.subtasks

pub invariant_of-graph : goal.invariant_of-graph
invariant_of-graph c =
    let (accepts, linked, ordered) = finds_sound c.in_ok-check_and_order.ensures in
    record { tidy = (sized _ _ accepts).0; linked = linked }

pub longest-requires-clause-subtasks : goal.longest-requires-clause-subtasks
longest-requires-clause-subtasks c = (refl, (sized _ _ (finds_sound c.in_ok-check_and_order.ensures).0).1)

pub longest-requires-clause-ordered : goal.longest-requires-clause-ordered
longest-requires-clause-ordered c = (finds_sound c.in_ok-check_and_order.ensures).2

pub returns : goal.returns
unfolding IsMeasure
returns c = ((finds_sound c.in_ok-check_and_order.ensures).0, c.total.ensures, c.longest.ensures)
