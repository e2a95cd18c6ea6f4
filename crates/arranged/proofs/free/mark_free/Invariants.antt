-- `mark_free`: the marks, arrow by arrow. Assumes nothing.
use Rattle.arranged.specs.Free.{Marks}
use Rattle.arranged.proofs.free.mark_free.Given as goal

abbrev pub invariant-loop-ends : goal.invariant-loop-ends
invariant-loop-ends l = Marks l.initial.side l.initial.arrows l.ends-index l.free
