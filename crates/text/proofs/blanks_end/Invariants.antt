-- `blanks_end`: the first place without a space or a tab. Assumes nothing.
use Rattle.std.proofs.Common.{◌≡◌, ◌+◌, drop}
use Rattle.terms.specs.Texts.{blanks}
use Rattle.text.proofs.blanks_end.Given as goal

abbrev pub invariant-loop-i : goal.invariant-loop-i
invariant-loop-i l = l.i + blanks (drop l.i l.text) ≡ l.at + blanks (drop l.at l.text)
