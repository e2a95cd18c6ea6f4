-- `judge`: the answer is the verdict, or the refusal of the table. Assumes nothing.
use Rattle.std.proofs.Common.{arith, ◌-◌}
use Rattle.terms.specs.Graphs.{time_of}
use Rattle.terms.specs.Replies.{IsMeasure}
use Rattle.verdict.proofs.Figures.{askable, judged, refused_answer}
use Rattle.verdict.proofs.judge.Goals as goal

pub verdict_of-requires : goal.verdict_of-requires
unfolding time_of
verdict_of-requires c = askable _ _ _ _ _ (rw c.in-Ok.is at c.ask.ensures) (λ j s. omega (arith, c.shared_slice_known-1.given (j - 1)))

pub returns-in-Ok : goal.returns-in-Ok
returns-in-Ok c = judged _ _ _ _ _ (rw c.in-Ok.is at c.ask.ensures) c.verdict_of.ensures

pub returns-in-Err : goal.returns-in-Err
unfolding IsMeasure
returns-in-Err c = refused_answer _ _ _ _ c.refused.ensures (rw c.in-Err.is at c.ask.ensures)
