-- `put_run`: a run of arrows put down one by one. Assumes nothing.
use Rattle.std.proofs.Common.{refl}
use Rattle.joins.specs.Puts.{run_of}
use Rattle.joins.proofs.Putting.{put_more}
use Rattle.joins.proofs.puts.put_run.Goals as goal

pub loop-i-init : goal.loop-i-init
unfolding run_of
loop-i-init c = refl

pub loop-i-preserved : goal.loop-i-preserved
loop-i-preserved c = rw c.from.ensures (put_more _ _ _ _ _ c.loop-i-test.true c.loop-i.invariant)
