-- `digits_end`: the first place without a digit. Assumes nothing.
use Rattle.std.proofs.Common.{◌≡◌, ◌+◌, drop, length}
use Rattle.terms.specs.Texts.{digits}
use Rattle.text.proofs.digits_end.Given as goal

abbrev pub invariant-loop-i : goal.invariant-loop-i
invariant-loop-i l = l.i + length (digits (drop l.i l.text)) ≡ l.at + length (digits (drop l.at l.text))
