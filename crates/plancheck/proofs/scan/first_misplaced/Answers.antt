-- `first_misplaced`: the first subtask with a processor outside 1..m. Assumes nothing.
use Rattle.std.proofs.Common.{rules, [], ◌+◌, length, tests}
use Rattle.std.proofs.lemmas.Iterator.{IsFirst-from_position, YieldsList-from_slice}
use Rattle.terms.specs.Graphs.{Among}
use Rattle.terms.specs.Plans.{not_placed, processor_of}
use Rattle.terms.specs.declared.Entry.{Entry}
use Rattle.theory.specs.First.{IsFirst}
use Rattle.forms.proofs.PlanEnds.{processor_next}
use Rattle.graph.proofs.FirstArrows.{first_position}
use Rattle.plancheck.proofs.FirstSubtasks.{place_here, place_none}
use Rattle.plancheck.proofs.scan.first_misplaced.Goals as goal

pub returns-in_err-place : goal.returns-in_err-place
returns-in_err-place c =
    let found : IsFirst (length c.args.plan.now) (λ k. ¬ Among 1 c.args.m (processor_of c.args.plan.now (k + 1))) c.position.result =
    first_position not_placed c.args.plan.now (λ (e : Entry). ¬ Among 1 c.args.m e.processor.0) (λ (e : Entry). Among 1 c.args.m e.processor.0)
    (λ k h. rw (processor_next [] c.args.plan.now k) h) (λ k h l. l (rw (processor_next [] c.args.plan.now k) h)) c.position.result
    (IsFirst-from_position _ _ _ (λ (e : Entry). ¬ Among 1 c.args.m e.processor.0) (λ (e : Entry). Among 1 c.args.m e.processor.0) c.position.ensures.ran
    (YieldsList-from_slice c.args.plan.now cc) (λ x q k. search (rules, tests)) (λ x q k. search (rules, tests))) in
    rw c.from_residual.ensures (place_none _ _ (rw c.in_err-place.was at found))

pub returns : goal.returns
returns c =
    let found : IsFirst (length c.args.plan.now) (λ k. ¬ Among 1 c.args.m (processor_of c.args.plan.now (k + 1))) c.position.result =
    first_position not_placed c.args.plan.now (λ (e : Entry). ¬ Among 1 c.args.m e.processor.0) (λ (e : Entry). Among 1 c.args.m e.processor.0)
    (λ k h. rw (processor_next [] c.args.plan.now k) h) (λ k h l. l (rw (processor_next [] c.args.plan.now k) h)) c.position.result
    (IsFirst-from_position _ _ _ (λ (e : Entry). ¬ Among 1 c.args.m e.processor.0) (λ (e : Entry). Among 1 c.args.m e.processor.0) c.position.ensures.ran
    (YieldsList-from_slice c.args.plan.now cc) (λ x q k. search (rules, tests)) (λ x q k. search (rules, tests))) in
    place_here _ _ _ (rw c.in_ok-place.was at found)
