-- `of`: the subtask at this side of an arrow. Assumes nothing.
use Rattle.std.proofs.Common.{rules}
use Rattle.arranged.specs.Sides.{end}
use Rattle.arranged.proofs.sides.Side.of.Goals as goal

pub returns-in-From : goal.returns-in-From
unfolding end
returns-in-From c = search rules

pub returns-in-To : goal.returns-in-To
unfolding end
returns-in-To c = search rules
