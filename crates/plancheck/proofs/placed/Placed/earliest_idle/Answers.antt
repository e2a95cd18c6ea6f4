-- `earliest_idle`: the earliest of 0 and all ends at which a subtask idles. Assumes nothing.
use Rattle.std.proofs.Common.{◌≡◌, ◌+◌, ◌-◌, length, arith}
use Rattle.theory.proofs.Firsts.{said, unsaid}
use Rattle.plancheck.specs.Scans.{SomeIdles}
use Rattle.plancheck.proofs.Counts.{earliest_first, earliest_none}
use Rattle.plancheck.proofs.placed.Placed.earliest_idle.Goals as goal

pub returns-then-some_idles : goal.returns-then-some_idles
returns-then-some_idles c =
    earliest_first _ _ _ _ _ (said {P = SomeIdles c.args.self.now.times.now c.args.self.now.plan.now c.args.self.now.ready.now c.args.self.now.m 0} c.if-some_idles.true c.some_idles.ensures)

pub loop-place-init : goal.loop-place-init
loop-place-init c =
    earliest_none _ _ _ _ (unsaid {P = SomeIdles c.args.self.now.times.now c.args.self.now.plan.now c.args.self.now.ready.now c.args.self.now.m 0} c.if-some_idles.false c.some_idles.ensures)

pub earlier_idle-found-requires : goal.earlier_idle-found-requires
earlier_idle-found-requires c =
    let e : c.loop-place.place + 1 - 1 ≡ c.loop-place.place = omega arith in
    record { subtask = record { low = omega arith; high = omega arith }; earliest = rw e c.loop-place.invariant }

pub returns : goal.returns
returns c = let e : c.loop-place.place ≡ length c.args.self.now.times.now = omega arith in rw e at c.loop-place.invariant
