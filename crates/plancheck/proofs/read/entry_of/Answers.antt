-- `entry_of`: what the plan holds for a subtask. Assumes nothing.
use Rattle.std.proofs.Common.{rules}
use Rattle.terms.specs.Plans.{processor_of, start_of}
use Rattle.plancheck.proofs.read.entry_of.Goals as goal

pub returns : goal.returns
unfolding processor_of start_of
returns c = search rules
