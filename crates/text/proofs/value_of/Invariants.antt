-- `value_of`: the number of a field, digit by digit. Assumes nothing.
use Rattle.std.proofs.Common.{◌+◌}
use Rattle.text.proofs.Digits.{Made}
use Rattle.text.proofs.value_of.Given as goal

abbrev pub invariant-loop-b : goal.invariant-loop-b
invariant-loop-b l = Made l.field l.number (l.b-index + 1)
