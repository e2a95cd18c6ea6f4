-- `first`: the first of the first n places that is marked. Assumes nothing.
use Rattle.listplan.proofs.Scans.{marked_here, none_marked}
use Rattle.listplan.proofs.marks.Marks.first.Goals as goal

pub returns-then-self-x : goal.returns-then-self-x
returns-then-self-x c =
    rw c.self.view_is at (marked_here c.requires.0 c.loop-x-test.true c.loop-x.invariant c.if-self-x.true)

pub returns : goal.returns
returns c = rw c.self.view_is at (none_marked c.requires.0 c.loop-x-test.false c.loop-x.invariant)
