-- `all_take_time`: whether those so far do. Assumes nothing.
use Rattle.theory.specs.Flags.{Says}
use Rattle.limits.specs.Times.{AllTakeTime}
use Rattle.limits.proofs.all_take_time.Given as goal

abbrev pub invariant-loop-time : goal.invariant-loop-time
invariant-loop-time l = Says (AllTakeTime l.time-index l.times) l.all
