-- `first_early`: the first subtask that starts before the latest end of a predecessor. Assumes nothing.
use Rattle.std.proofs.Common.{◌<◌, get_or}
use Rattle.terms.specs.Plans.{start_of}
use Rattle.theory.proofs.Firsts.{NoneTo}
use Rattle.plancheck.proofs.scan.first_early.Given as goal

abbrev pub invariant-loop-place : goal.invariant-loop-place
invariant-loop-place l = NoneTo (λ j. start_of l.plan j < get_or l.ready j 0) l.place
