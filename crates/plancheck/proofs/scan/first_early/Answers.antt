-- `first_early`: the first subtask that starts before the latest end of a predecessor. Assumes nothing.
use Rattle.std.proofs.Common.{[], arith, below_more}
use Rattle.forms.proofs.PlanEnds.{start_next}
use Rattle.plancheck.proofs.FirstSubtasks.{first_here, first_none}
use Rattle.plancheck.proofs.scan.first_early.Goals as goal

pub returns-then-entry-ready : goal.returns-then-entry-ready
returns-then-entry-ready c =
    first_here _ c.loop-place.invariant (omega arith) (omega (arith, c.if-entry-ready.true, start_next [] c.args.plan.now c.loop-place.place))

pub loop-place-preserved : goal.loop-place-preserved
loop-place-preserved c =
    below_more _ _ c.loop-place.invariant (λ h. omega (arith, h, c.if-entry-ready.false, start_next [] c.args.plan.now c.loop-place.place))

pub returns : goal.returns
returns c = first_none _ c.loop-place.invariant (omega arith)
