-- `put_numbers`: some numbers put down in a row, one by one. Assumes nothing.
use Rattle.std.proofs.Common.{refl}
use Rattle.joins.proofs.Putting.{number_more}
use Rattle.joins.proofs.puts.put_numbers.Goals as goal

pub loop-i-init : goal.loop-i-init
loop-i-init c = refl

pub loop-i-preserved : goal.loop-i-preserved
loop-i-preserved c = number_more _ _ _ c.loop-i-test.true c.loop-i.invariant
