-- `figures_of`: C and P of the nest that the row is the writing of, or 32. Assumes nothing.
use Rattle.std.proofs.Common.{arith}
use Rattle.nests.proofs.WholeNests.{row_long, row_broken, row_left, row_filled}
use Rattle.nests.proofs.figures_of.Goals as goal

pub returns-then-row-gt256 : goal.returns-then-row-gt256
returns-then-row-gt256 c = row_long _ (omega (arith, c.if-row-gt256.true))

pub returns-in_default : goal.returns-in_default
returns-in_default c = row_broken _ c.in_default.ensures

pub returns-then-nest-row : goal.returns-then-nest-row
returns-then-nest-row c = row_left _ _ c.in-Some.ensures c.if-nest-row.true

pub returns : goal.returns
returns c = row_filled _ _ c.in-Some.ensures c.if-nest-row.false c.if-row-gt256.false
