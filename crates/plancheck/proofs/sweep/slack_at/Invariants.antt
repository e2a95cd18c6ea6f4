-- `slack_at`: none of the processors that came so far is free before s. Assumes nothing.
use Rattle.std.proofs.Common.{ℕ, ◌≤◌, get_or}
use Rattle.terms.specs.Graphs.{Among}
use Rattle.plancheck.proofs.sweep.slack_at.Given as goal

abbrev pub invariant-loop-p : goal.invariant-loop-p
invariant-loop-p l = (q : ℕ) → Among 1 l.p q → l.s ≤ get_or l.until q 0
