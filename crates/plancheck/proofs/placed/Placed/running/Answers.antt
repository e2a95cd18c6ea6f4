-- `running`: how many subtasks run at t. Assumes nothing.
use Rattle.std.proofs.Common.{◌≡◌, refl, ap, ◌∙◌, ◌+◌, Bool, true, false, cond, get_or, length, arith}
use mir.Val.{bool_byte}
use Rattle.terms.specs.Plans.{not_placed}
use Rattle.terms.specs.Sums.{sum}
use Rattle.forms.proofs.PlanEnds.{start_next}
use Rattle.plancheck.proofs.Counts.{one, counted, runs_round, one_more, one_small}
use Rattle.plancheck.proofs.placed.Placed.running.Goals as goal

as_cond : (b : Bool) → bool_byte b ≡ cond b 1 0
as_cond true = refl
as_cond false = refl

pub loop-place-init : goal.loop-place-init
unfolding sum
loop-place-init c = (omega arith, refl)

pub loop-place-preserved : goal.loop-place-preserved
loop-place-preserved c =
    let k = c.loop-place.place in
    let this : c.from-count.result ≡ one c.args.t (get_or c.args.self.now.times.now k 0) (get_or c.args.self.now.plan.now k not_placed) =
    let low = c.args.self.now.sound.timed.low (k + 1) (record { low = omega arith; high = omega (arith, c.args.self.now.sound.timed.whole) }) in
    (rw c.time_in-time.ensures.0 at c.from-count.ensures)
    ∙ ap bool_byte (runs_round c.args.t (get_or c.args.self.now.times.now k 0) (get_or c.args.self.now.plan.now k not_placed) (omega arith)
    (omega (arith, low, start_next c.args.self.now.times.now c.args.self.now.plan.now k)) (omega (arith, c.time_in-time.ensures.0, c.time_in-time.ensures.1)))
    ∙ as_cond _ in
    let small = one_small c.args.t (get_or c.args.self.now.times.now k 0) (get_or c.args.self.now.plan.now k not_placed) in
    (omega (arith, c.loop-place.invariant.0, this, small), one_more c.args.t c.args.self.now.times.now c.args.self.now.plan.now k c.loop-place.invariant.1 this)

pub returns : goal.returns
returns c =
    let whole : length c.args.self.now.times.now ≡ c.loop-place.place = omega (arith, c.args.self.now.sound.timed.whole) in
    rw (counted c.args.t c.args.self.now.times.now c.args.self.now.plan.now c.args.self.now.sound.timed.whole, whole) c.loop-place.invariant.1
