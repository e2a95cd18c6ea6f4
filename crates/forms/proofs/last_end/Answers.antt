-- `last_end`: the largest end of the subtasks that came so far. Assumes nothing.
use Rattle.std.proofs.Common.{◌≡◌, refl, min, length, arith}
use Rattle.forms.specs.Forms.{last_end}
use Rattle.forms.proofs.PlanEnds.{last_more}
use Rattle.forms.proofs.last_end.Goals as goal

pub loop-i-init : goal.loop-i-init
unfolding last_end
loop-i-init c = refl

pub loop-i-preserved : goal.loop-i-preserved
loop-i-preserved c =
    let more = last_more c.args.times.now c.args.starts.now c.loop-i.i c.time_of.result _ (omega arith) c.time_of.ensures refl in
    rw (c.max-end.ensures, c.loop-i.invariant, c.from.ensures, c.from-in-loop-i.ensures) more

pub returns : goal.returns
returns c =
    let e : c.loop-i.i ≡ min (length c.args.times.now) (length c.args.starts.now) = omega arith in
    rw (← e) c.loop-i.invariant
