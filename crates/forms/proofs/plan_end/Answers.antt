-- `plan_end`: the largest end of the subtasks that came so far. Assumes nothing.
use Rattle.std.proofs.Common.{◌≡◌, refl, min, length, arith}
use Rattle.forms.specs.Forms.{plan_end}
use Rattle.forms.proofs.PlanEnds.{plan_more}
use Rattle.forms.proofs.plan_end.Goals as goal

pub loop-i-init : goal.loop-i-init
unfolding plan_end
loop-i-init c = refl

pub loop-i-preserved : goal.loop-i-preserved
loop-i-preserved c =
    let more = plan_more c.args.times.now c.args.plan.now c.loop-i.i c.time_of.result _ (omega arith) c.time_of.ensures refl in
    rw (c.max-end.ensures, c.loop-i.invariant, c.from.ensures, c.from-in-loop-i.ensures) more

pub returns : goal.returns
returns c =
    let e : c.loop-i.i ≡ min (length c.args.times.now) (length c.args.plan.now) = omega arith in
    rw (← e) c.loop-i.invariant
