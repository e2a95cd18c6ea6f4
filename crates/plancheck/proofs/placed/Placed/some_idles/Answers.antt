-- `some_idles`: whether a subtask idles at t. Assumes nothing.
use Rattle.std.proofs.Common.{◌≡◌, ◌+◌, ◌-◌, arith, below_more}
use Rattle.forms.proofs.PlanEnds.{start_next}
use Rattle.plancheck.proofs.placed.Placed.some_idles.Goals as goal
use Rattle.plancheck.proofs.placed.Placed.some_idles.Goals.{else-self-place-via-then-self-place+else-t-entry, else-self-place-via-else-self-place}

pub returns-then-self-running : goal.returns-then-self-running
returns-then-self-running c = λ h. omega (arith, h.idles.room)

pub returns-then-t-entry : goal.returns-then-t-entry
returns-then-t-entry c = record {
  subtask = c.loop-place.place + 1;
  idles = record { room = omega arith; due = c.if-self-place.true; later = omega (arith, start_next c.args.self.now.times.now c.args.self.now.plan.now c.loop-place.place) };
  is_subtask = record { low = omega arith; high = omega arith };
}

pub loop-place-preserved : goal.loop-place-preserved
loop-place-preserved c = below_more _ _ c.loop-place.invariant (λ h. elim c.else-self-place.branch [
  | else-self-place-via-then-self-place+else-t-entry w ↦ omega (arith, h.later, start_next c.args.self.now.times.now c.args.self.now.plan.now c.loop-place.place)
  | else-self-place-via-else-self-place w ↦ omega (arith, h.due)
])

pub returns : goal.returns
returns c = λ h.
    let e : h.subtask - 1 + 1 ≡ h.subtask = omega (arith, h.is_subtask.low) in
    c.loop-place.invariant (h.subtask - 1) (omega (arith, h.is_subtask.low, h.is_subtask.high)) (rw e h.idles)
