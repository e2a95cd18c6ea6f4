-- `follow_rule`: each way round keeps what holds and leaves less to do; at the end the row holds the list plan. Assumes nothing.
use Rattle.std.proofs.Common.{ℕ, refl, ap, ◌∙◌, get_or, arith}
use Rattle.terms.specs.ListRule.{put}
use Rattle.theory.proofs.Rounds.{both}
use Rattle.listplan.specs.Making.{NextStart}
use Rattle.listplan.proofs.Beginning.{begins}
use Rattle.listplan.proofs.Steps.{arrow_fits, holder_fits, next_due, starter, starter_fits}
use Rattle.listplan.proofs.Steps.{step_counted, step_ended, step_started, step_moved, finished}
use Rattle.listplan.proofs.rule.follow_rule.Goals as goal

pub loop-c-init : goal.loop-c-init
loop-c-init c = rw (c.none-holders.ensures.0, c.none-holders.ensures.1) (begins c.args.job.now.sound c.requires)

pub count_off-low-requires : goal.count_off-low-requires
count_off-low-requires c =
    let fits = arrow_fits c.args.job.now.sound c.loop-c.invariant c.if-c-ne0.true in
    record { to = (fits.1, fits.3); left = (c.loop-c.invariant.making.lefts.long, fits.2) }

counts_off : goal.loop-c-preserved-then-c-ne0 × goal.loop-c-smaller-then-c-ne0
counts_off = both (λ c. step_counted c.args.job.now.sound c.loop-c.invariant c.if-c-ne0.true c.from-c.ensures c.count_off-low.ensures)

pub loop-c-smaller-then-c-ne0 : goal.loop-c-smaller-then-c-ne0
loop-c-smaller-then-c-ne0 = counts_off.1

pub loop-c-preserved-then-c-ne0 : goal.loop-c-preserved-then-c-ne0
loop-c-preserved-then-c-ne0 = counts_off.0

pub leave-requires : goal.leave-requires
leave-requires c = (holder_fits c.args.job.now.sound c.loop-c.invariant c.if-c-ne0.false c.in-Some.is).0

pub offset_bounds-job-leave : goal.offset_bounds-job-leave
offset_bounds-job-leave c = omega (arith, c.leave.ensures.value, (holder_fits c.args.job.now.sound c.loop-c.invariant c.if-c-ne0.false c.in-Some.is).1)

pub bounds-job-leave : goal.bounds-job-leave
bounds-job-leave c = rw c.leave.ensures.value (holder_fits c.args.job.now.sound c.loop-c.invariant c.if-c-ne0.false c.in-Some.is).1

pub first_due-due-requires : goal.first_due-due-requires
first_due-due-requires c =
    rw (c.leave.ensures.after.0, c.from.ensures)
    (c.args.job.now.sound.within, omega arith, next_due c.args.job.now.sound c.loop-c.invariant c.if-c-ne0.false c.in-Some.is)

ends_one : goal.loop-c-preserved-in-Some × goal.loop-c-smaller-in-Some
ends_one = both (λ c. step_ended c.args.job.now.sound c.loop-c.invariant c.if-c-ne0.false c.in-Some.is
    (c.from-c-in-Some.ensures ∙ ap (λ (j : ℕ). get_or c.args.job.now.first.now j 0) c.leave.ensures.value) c.leave.ensures.after c.first_due-due.ensures)

pub loop-c-smaller-in-Some : goal.loop-c-smaller-in-Some
loop-c-smaller-in-Some = ends_one.1

pub loop-c-preserved-in-Some : goal.loop-c-preserved-in-Some
loop-c-preserved-in-Some = ends_one.0

-- the subtask that starts
pub overflow_sub-subtask : goal.overflow_sub-subtask
unfolding NextStart
overflow_sub-subtask c =
    let start = rw c.in-Some-next_start.is at c.next_start.ensures in
    (starter c.args.job.now.sound c.loop-c.invariant c.if-c-ne0.false c.in_default.is _ _ start.0 start.1 c.subtask_at-subtask.ensures.0).low

pub enter-requires : goal.enter-requires
unfolding NextStart
enter-requires c =
    let start = rw c.in-Some-next_start.is at c.next_start.ensures in
    (c.subtask_at-subtask.ensures.1, (starter_fits c.args.job.now.sound c.loop-c.invariant c.if-c-ne0.false c.in_default.is _ _ start.0 start.1).0)

pub unmark-requires : goal.unmark-requires
unfolding NextStart
unmark-requires c =
    let start = rw c.in-Some-next_start.is at c.next_start.ensures in
    let fits = starter_fits c.args.job.now.sound c.loop-c.invariant c.if-c-ne0.false c.in_default.is _ _ start.0 start.1 in (fits.1, fits.2)

pub overflow_add-low : goal.overflow_add-low
unfolding NextStart
overflow_add-low c =
    let start = rw c.in-Some-next_start.is at c.next_start.ensures in
    omega (arith, (starter_fits c.args.job.now.sound c.loop-c.invariant c.if-c-ne0.false c.in_default.is _ _ start.0 start.1).1)

starts_one : goal.loop-c-preserved-in-Some-next_start × goal.loop-c-smaller-in-Some-next_start
unfolding NextStart put
starts_one = both (λ c.
    let start = rw c.in-Some-next_start.is at c.next_start.ensures in
    let s = starter c.args.job.now.sound c.loop-c.invariant c.if-c-ne0.false c.in_default.is _ _ start.0 start.1 c.subtask_at-subtask.ensures.0 in
    step_started c.args.job.now.sound c.loop-c.invariant c.if-c-ne0.false c.in_default.is _ _ start.0 start.1 c.subtask_at-subtask.ensures.0 c.unmark.ensures
    refl (rw (c.time_of.ensures.is s) at c.enter.ensures.0, c.enter.ensures.1))

pub loop-c-smaller-in-Some-next_start : goal.loop-c-smaller-in-Some-next_start
loop-c-smaller-in-Some-next_start = starts_one.1

pub loop-c-preserved-in-Some-next_start : goal.loop-c-preserved-in-Some-next_start
loop-c-preserved-in-Some-next_start = starts_one.0

pub returns-then-t-clause-list_plan : goal.returns-then-t-clause-list_plan
unfolding NextStart
returns-then-t-clause-list_plan c =
    let nothing = rw c.in_default-next_start.is at c.next_start.ensures in
    finished c.args.job.now.sound c.loop-c.invariant c.if-c-ne0.false c.in_default.is nothing c.soonest-soonest.ensures
    (ap (λ (p : ℕ). get_or c.loop-c.holders.until p 0) c.from-in-loop-c.ensures) c.if-t.true

moves : goal.loop-c-preserved × goal.loop-c-smaller
unfolding NextStart
moves = both (λ c.
    let nothing = rw c.in_default-next_start.is at c.next_start.ensures in
    step_moved c.args.job.now.sound c.loop-c.invariant c.if-c-ne0.false c.in_default.is nothing c.soonest-soonest.ensures
    (ap (λ (p : ℕ). get_or c.loop-c.holders.until p 0) c.from-in-loop-c.ensures) c.if-t.false)

pub loop-c-smaller : goal.loop-c-smaller
loop-c-smaller = moves.1

pub loop-c-preserved : goal.loop-c-preserved
loop-c-preserved = moves.0
