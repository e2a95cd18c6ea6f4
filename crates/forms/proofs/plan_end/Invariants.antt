-- `plan_end`: the largest end of the subtasks that came so far. Assumes nothing.
use Rattle.std.proofs.Common.{◌≡◌}
use Rattle.forms.specs.Forms.{plan_end}
use Rattle.forms.proofs.plan_end.Given as goal

abbrev pub invariant-loop-i : goal.invariant-loop-i
invariant-loop-i l = l.end ≡ plan_end l.times l.plan l.i
