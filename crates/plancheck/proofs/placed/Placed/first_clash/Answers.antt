-- `first_clash`: the first subtask after i with which i clashes. Assumes nothing.
use Rattle.std.proofs.Common.{◌+◌, arith, below_more}
use Rattle.theory.proofs.Firsts.{said, unsaid}
use Rattle.plancheck.specs.Scans.{Clash}
use Rattle.plancheck.proofs.Clashes.{none_before}
use Rattle.plancheck.proofs.FirstSubtasks.{first_here, first_none}
use Rattle.plancheck.proofs.placed.Placed.first_clash.Goals as goal

pub loop-place-init : goal.loop-place-init
loop-place-init c = none_before _ _ _

pub returns-then-clash : goal.returns-then-clash
returns-then-clash c =
    first_here _ c.loop-place.invariant (omega arith)
    (said {P = Clash c.args.self.now.times.now c.args.self.now.plan.now c.args.i.0 (c.loop-place.place + 1)} c.if-clash.true c.clash.ensures)

pub loop-place-preserved : goal.loop-place-preserved
loop-place-preserved c =
    below_more _ _ c.loop-place.invariant
    (unsaid {P = Clash c.args.self.now.times.now c.args.self.now.plan.now c.args.i.0 (c.loop-place.place + 1)} c.if-clash.false c.clash.ensures)

pub returns : goal.returns
returns c = first_none _ c.loop-place.invariant (omega arith)
