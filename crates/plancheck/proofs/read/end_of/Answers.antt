-- `end_of`: start + time, in 32 bits. Assumes nothing.
use Rattle.std.proofs.Common.{arith}
use Rattle.terms.specs.Plans.{end_of}
use Rattle.plancheck.proofs.read.end_of.Goals as goal

pub overflow_add-result : goal.overflow_add-result
overflow_add-result c = omega (arith, c.requires.1.low _ c.requires.0)

pub returns : goal.returns
unfolding end_of
returns c = omega (arith, c.time_of.ensures.is c.requires.0)
