-- `last_end`: the largest end of the subtasks that came so far. Assumes nothing.
use Rattle.std.proofs.Common.{◌≡◌}
use Rattle.forms.specs.Forms.{last_end}
use Rattle.forms.proofs.last_end.Given as goal

abbrev pub invariant-loop-i : goal.invariant-loop-i
invariant-loop-i l = l.end ≡ last_end l.times l.starts l.i
