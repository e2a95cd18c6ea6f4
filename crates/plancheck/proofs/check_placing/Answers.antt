-- `check_placing`: the first row of 13 to 17 that holds of a plan. Assumes nothing.
use Rattle.std.proofs.Common.{arith}
use Rattle.terms.specs.Replies.{IsCheck}
use Rattle.terms.proofs.Decisions.{told}
use Rattle.theory.specs.First.{IsFirstSubtask}
use Rattle.theory.proofs.Firsts.{shown}
use Rattle.plancheck.specs.Known.{Timed}
use Rattle.plancheck.specs.Scans.{FirstClash}
use Rattle.plancheck.specs.Sweeps.{ApartAndBusy}
use Rattle.plancheck.proofs.SubtaskTests.{Prepared, answer_13, placed_by, answer_14, timed_by, answer_15, prepared_by}
use Rattle.plancheck.proofs.ProcessorTests.{answer_16, sound_pairs, answer_17, busy_instants, sweepable, busy_swept, accepted_busy}
use Rattle.plancheck.proofs.check_placing.Goals as goal
use Rattle.plancheck.proofs.check_placing.Goals.{In_default-first_late, In_default-first_early, In_default-first_sharing}

-- after 14
timed : (c : In_default-first_late) → Timed c.args.times.now c.args.plan.now
timed c = timed_by c.requires (rw c.in_default-first_late.is at c.first_late.ensures)

-- after 15
known : (c : In_default-first_early) → Prepared c.args.times.now c.args.arrows.now c.args.m c.args.plan.now c.latest_ends-ready.result
known c = prepared_by c.requires (placed_by c.requires (rw c.in_default.is at c.first_misplaced.ensures))
    (timed_by c.requires (rw c.in_default-first_late.is at c.first_late.ensures)) c.latest_ends-ready.ensures (rw c.in_default-first_early.is at c.first_early.ensures)

pub returns-in-Some : goal.returns-in-Some
unfolding IsCheck
returns-in-Some c = answer_13 c.requires (rw c.in-Some.is at c.first_misplaced.ensures) told

pub returns-in-Some-first_late : goal.returns-in-Some-first_late
unfolding IsCheck
returns-in-Some-first_late c =
    answer_14 c.requires (placed_by c.requires (rw c.in_default.is at c.first_misplaced.ensures)) (rw c.in-Some-first_late.is at c.first_late.ensures)
    told

pub latest_ends-ready-requires : goal.latest_ends-ready-requires
latest_ends-ready-requires c = (c.requires.graph, timed (goal.at.latest_ends-ready-requires c).In_default-first_late)

pub returns-in-Some-first_early : goal.returns-in-Some-first_early
unfolding IsCheck
returns-in-Some-first_early c =
    answer_15 c.requires (placed_by c.requires (rw c.in_default.is at c.first_misplaced.ensures)) (timed (goal.at.returns-in-Some-first_early c).In_default-first_late)
    c.latest_ends-ready.ensures (rw c.in-Some-first_early.is at c.first_early.ensures) told

pub invariant_of-placed : goal.invariant_of-placed
invariant_of-placed c = record { sound = sweepable (known (goal.at.invariant_of-placed c).In_default-first_early) }

pub returns-then-passes_sweep : goal.returns-then-passes_sweep
unfolding IsCheck
returns-then-passes_sweep c =
    let before = known (goal.at.returns-then-passes_sweep c).In_default-first_early in
    let swept : ApartAndBusy c.args.times.now c.args.m c.args.plan.now c.latest_ends-ready.result = shown c.if-passes_sweep.true c.passes_sweep.ensures in
    accepted_busy before (busy_swept before swept)

pub returns-in-Some-first_sharing : goal.returns-in-Some-first_sharing
unfolding IsCheck
returns-in-Some-first_sharing c =
    answer_16 (known (goal.at.returns-in-Some-first_sharing c).In_default-first_early) (rw c.in-Some-first_sharing.is at c.first_sharing.ensures) told

pub returns-in-Some-earliest_idle : goal.returns-in-Some-earliest_idle
unfolding IsCheck
returns-in-Some-earliest_idle c =
    let before = known (goal.at.returns-in-Some-earliest_idle c).In_default-first_early in
    answer_17 before (sound_pairs before (rw c.in_default-first_sharing.is at c.first_sharing.ensures)) (rw c.in-Some-earliest_idle.is at c.earliest_idle.ensures)
    told

pub returns : goal.returns
unfolding IsCheck
returns c =
    let before = known (goal.at.returns c).In_default-first_early in
    accepted_busy before
    (busy_instants before (sound_pairs before (rw c.in_default-first_sharing.is at c.first_sharing.ensures)) (rw c.in_default-earliest_idle.is at c.earliest_idle.ensures))

pub overflow_cast-result : goal.overflow_cast-result
unfolding IsFirstSubtask
overflow_cast-result c =
    let first = rw c.in-Some.is at c.first_misplaced.ensures in omega (arith, first.0.high)

pub overflow_cast-result-in-Some-first_late : goal.overflow_cast-result-in-Some-first_late
unfolding IsFirstSubtask
overflow_cast-result-in-Some-first_late c =
    let first = rw c.in-Some-first_late.is at c.first_late.ensures in omega (arith, first.0.high)

pub overflow_cast-result-in-Some-first_early : goal.overflow_cast-result-in-Some-first_early
unfolding IsFirstSubtask
overflow_cast-result-in-Some-first_early c =
    let first = rw c.in-Some-first_early.is at c.first_early.ensures in omega (arith, first.0.high)

pub overflow_cast-result-in-Some-first_sharing : goal.overflow_cast-result-in-Some-first_sharing
unfolding FirstClash IsFirstSubtask
overflow_cast-result-in-Some-first_sharing c =
    let first = rw c.in-Some-first_sharing.is at c.first_sharing.ensures in omega (arith, first.0.0.high)

pub overflow_cast-result-in-Some-first_sharing-2 : goal.overflow_cast-result-in-Some-first_sharing-2
unfolding FirstClash IsFirstSubtask
overflow_cast-result-in-Some-first_sharing-2 c =
    let first = rw c.in-Some-first_sharing.is at c.first_sharing.ensures in omega (arith, first.1.0.high)
