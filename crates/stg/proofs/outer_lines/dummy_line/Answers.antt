-- `dummy_line`: a dummy has time 0 and predecessors below its index. Assumes nothing.
use Rattle.std.proofs.lemmas.Bool.{not-true, not-false}
use Rattle.stg.proofs.OneLine.{dummy_time, dummy_far, dummy_is}
use Rattle.stg.proofs.outer_lines.dummy_line.Goals as goal
use Rattle.stg.proofs.outer_lines.dummy_line.Goals.{then-line-ne0-via-then-line-ne0, then-line-ne0-via-else-line-ne0+then-not-line}

pub returns-then-line-ne0 : goal.returns-then-line-ne0
returns-then-line-ne0 c = elim c.then-line-ne0.branch [
  | then-line-ne0-via-then-line-ne0 w ↦ dummy_time c.in-Some.ensures.1 w.if-line-ne0.true
  | then-line-ne0-via-else-line-ne0+then-not-line w ↦ dummy_far c.in-Some.ensures.1 (not-true _ w.if-not-line.true)
]

pub returns : goal.returns
returns c = dummy_is c.in-Some.ensures.1 c.if-line-ne0.false (not-false _ c.if-not-line.false)
