-- `time_of`: the time is that of the subtask, and 0 where the number is none. Assumes nothing.
use Rattle.std.proofs.Common.{arith}
use Rattle.terms.specs.Graphs.{time_of}
use Rattle.inputs.proofs.time_of.Goals as goal

pub returns : goal.returns
unfolding time_of
returns c = record {
  is = λ _. c.time_in.ensures.0;
  none = λ none. absurd (none (record { low = omega arith; high = omega arith }));
  small = omega arith;
}
