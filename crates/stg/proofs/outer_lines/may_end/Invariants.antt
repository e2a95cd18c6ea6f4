-- `may_end`: only lines that may follow stand from here on. Assumes nothing.
use Rattle.std.proofs.Common.{◌≡◌, ◌-◌, ◌≤◌, length, drop}
use Rattle.terms.specs.Texts.{lines}
use Rattle.terms.specs.Readings.{trailer}
use Rattle.stg.proofs.outer_lines.may_end.Given as goal

abbrev pub invariant-loop-here : goal.invariant-loop-here
invariant-loop-here l = (l.here ≤ length l.initial.text) × (trailer (lines (drop l.initial.at l.initial.text)) ≡ trailer (lines (drop l.here l.initial.text)))

abbrev pub decreases-loop-here : goal.decreases-loop-here
decreases-loop-here l = length l.initial.text - l.here
