-- `put_numbers`: some numbers put down in a row, one by one. Assumes nothing.
use Rattle.joins.proofs.Putting.{PutNumbers}
use Rattle.joins.proofs.puts.put_numbers.Given as goal

abbrev pub invariant-loop-i : goal.invariant-loop-i
invariant-loop-i l = PutNumbers l.initial.numbers l.initial.row l.initial.at l.row l.i
