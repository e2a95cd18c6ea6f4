-- `latest_ends`: the row holds the latest end of a predecessor of each subtask. Assumes nothing.
use Rattle.std.proofs.Common.{ℕ, ap, ◌∙◌, arith}
use Rattle.terms.specs.Graphs.{from_of, to_of}
use Rattle.terms.specs.Plans.{end_of}
use Rattle.plancheck.proofs.LatestEnds.{latest_none, latest_more}
use Rattle.plancheck.proofs.scan.latest_ends.Goals as goal

pub loop-ends-init : goal.loop-ends-init
loop-ends-init c = latest_none _ _ _

pub end_of-end-requires : goal.end_of-end-requires
unfolding from_of
end_of-end-requires c = (rw c.arrow_of.ensures.begins (c.requires.0.named _ c.loop-ends-test.true).0, c.requires.1)

pub bounds-ready-to : goal.bounds-ready-to
unfolding to_of
bounds-ready-to c = let named = c.requires.0.named _ c.loop-ends-test.true in omega (arith, c.arrow_of.ensures.arrives, named.1.high, c.requires.0.count.high)

pub bounds-ready-to-in-loop-ends : goal.bounds-ready-to-in-loop-ends
unfolding to_of
bounds-ready-to-in-loop-ends c = let named = c.requires.0.named _ c.loop-ends-test.true in omega (arith, c.arrow_of.ensures.arrives, named.1.high, c.requires.0.count.high)

pub loop-ends-preserved : goal.loop-ends-preserved
unfolding from_of to_of
loop-ends-preserved c =
    let named = c.requires.0.named _ c.loop-ends-test.true in
    latest_more _ _ _ _ _ _ _ _ c.loop-ends.invariant c.arrow_of.ensures.arrives (omega (arith, c.arrow_of.ensures.arrives, named.1.high, c.requires.0.count.high))
    (c.end_of-end.ensures ∙ ap (λ (x : ℕ). end_of c.args.times.now c.args.plan.now x) c.arrow_of.ensures.begins) c.max.ensures
