-- `line_after`: the place behind the next LF, or the end. Assumes nothing.
use Rattle.std.proofs.Common.{◌≡◌, ◌+◌, drop}
use Rattle.text.specs.Steps.{line_size}
use Rattle.text.proofs.line_after.Given as goal

abbrev pub invariant-loop-i : goal.invariant-loop-i
invariant-loop-i l = l.i + line_size (drop l.i l.text) ≡ l.at + line_size (drop l.at l.text)
