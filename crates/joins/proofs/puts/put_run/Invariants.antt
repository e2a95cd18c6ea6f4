-- `put_run`: a run of arrows put down one by one. Assumes nothing.
use Rattle.joins.proofs.Putting.{Put}
use Rattle.joins.proofs.puts.put_run.Given as goal

abbrev pub invariant-loop-i : goal.invariant-loop-i
invariant-loop-i l = Put l.initial.from l.initial.up l.initial.numbers l.initial.arrows l.initial.at l.arrows l.i
