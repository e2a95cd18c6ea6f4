-- `first_late`: the first subtask that starts above 16,776,960. Assumes nothing.
use Rattle.std.proofs.Common.{rules, [], ◌+◌, ◌<◌, ◌≤◌, length, arith, tests}
use Rattle.std.proofs.lemmas.Iterator.{IsFirst-from_position, YieldsList-from_slice}
use Rattle.terms.specs.Plans.{not_placed, start_of}
use Rattle.terms.specs.declared.Entry.{Entry}
use Rattle.theory.specs.First.{IsFirst}
use Rattle.forms.proofs.PlanEnds.{start_next}
use Rattle.graph.proofs.FirstArrows.{first_position}
use Rattle.plancheck.proofs.FirstSubtasks.{place_here, place_none}
use Rattle.plancheck.proofs.scan.first_late.Goals as goal

pub returns-in_err-place : goal.returns-in_err-place
returns-in_err-place c =
    let found : IsFirst (length c.args.plan.now) (λ k. 16776960 < start_of c.args.plan.now (k + 1)) c.position.result =
    first_position not_placed c.args.plan.now (λ (e : Entry). 16776960 < e.start) (λ (e : Entry). e.start ≤ 16776960)
    (λ k h. omega (arith, h, start_next [] c.args.plan.now k)) (λ k h l. omega (arith, h, l, start_next [] c.args.plan.now k)) c.position.result
    (IsFirst-from_position _ _ _ (λ (e : Entry). 16776960 < e.start) (λ (e : Entry). e.start ≤ 16776960) c.position.ensures.ran
    (YieldsList-from_slice c.args.plan.now cc) (λ x q k. search (rules, tests)) (λ x q k. search (rules, tests))) in
    rw c.from_residual.ensures (place_none _ _ (rw c.in_err-place.was at found))

pub returns : goal.returns
returns c =
    let found : IsFirst (length c.args.plan.now) (λ k. 16776960 < start_of c.args.plan.now (k + 1)) c.position.result =
    first_position not_placed c.args.plan.now (λ (e : Entry). 16776960 < e.start) (λ (e : Entry). e.start ≤ 16776960)
    (λ k h. omega (arith, h, start_next [] c.args.plan.now k)) (λ k h l. omega (arith, h, l, start_next [] c.args.plan.now k)) c.position.result
    (IsFirst-from_position _ _ _ (λ (e : Entry). 16776960 < e.start) (λ (e : Entry). e.start ≤ 16776960) c.position.ensures.ran
    (YieldsList-from_slice c.args.plan.now cc) (λ x q k. search (rules, tests)) (λ x q k. search (rules, tests))) in
    place_here _ _ _ (rw c.in_ok-place.was at found)
