-- `next_start`: the first marked place with the first free processor. Assumes nothing.
use Rattle.std.proofs.Common.{inl, inr}
use Rattle.listplan.specs.Making.{NextStart}
use Rattle.listplan.proofs.starts.next_start.Goals as goal

pub returns-in_err-processor : goal.returns-in_err-processor
unfolding NextStart
returns-in_err-processor c = rw c.from_residual.ensures (inr c.in_err-processor.ensures)

pub returns-in_err-place : goal.returns-in_err-place
unfolding NextStart
returns-in_err-place c = rw c.from_residual-in_err-place.ensures (inl c.in_err-place.ensures)

pub returns : goal.returns
unfolding NextStart
returns c = (c.in_ok-place.ensures, c.in_ok-processor.ensures)
