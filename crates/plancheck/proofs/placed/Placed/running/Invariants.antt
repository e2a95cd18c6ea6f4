-- `running`: how many of those so far run at t. Assumes nothing.
use Rattle.std.proofs.Common.{◌≡◌, ◌≤◌, get_or}
use Rattle.terms.specs.Plans.{not_placed}
use Rattle.terms.specs.Sums.{sum}
use Rattle.plancheck.proofs.Counts.{one}
use Rattle.plancheck.proofs.placed.Placed.running.Given as goal

abbrev pub invariant-loop-place : goal.invariant-loop-place
invariant-loop-place l = (l.count ≤ l.place) × (l.count ≡ sum l.place (λ i. one l.t (get_or l.self.times.now i 0) (get_or l.self.plan.now i not_placed)))
