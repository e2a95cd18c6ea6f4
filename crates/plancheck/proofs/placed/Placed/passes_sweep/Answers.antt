-- `passes_sweep`: a sweep that comes to its end shows that nothing clashes and nothing idles. Assumes nothing.
use Rattle.std.proofs.Common.{refl, ◌∙◌, arith}
use Rattle.terms.specs.Graphs.{IsSubtask}
use Rattle.plancheck.proofs.Swept.{nth_is, swept_more, swept_all, low_starts, until_room}
use Rattle.plancheck.proofs.placed.Placed.passes_sweep.Goals as goal

pub in_order-row-requires : goal.in_order-row-requires
in_order-row-requires c = low_starts c.args.self.now.sound.timed

pub bounds-until-p : goal.bounds-until-p
bounds-until-p c =
    -- the subtask at hand is one, and stands on a processor of 1..m
    let at_hand : IsSubtask c.args.self.now.times.now _ = record { low = omega arith; high = c.if-self-subtask.false } in
    until_room c.args.self.now.sound at_hand (c.from-p.ensures ∙ c.entry_of-entry.ensures.processor)

pub bounds-until-p-in-loop-x : goal.bounds-until-p-in-loop-x
bounds-until-p-in-loop-x c =
    let at_hand : IsSubtask c.args.self.now.times.now _ = record { low = omega arith; high = c.if-self-subtask.false } in
    until_room c.args.self.now.sound at_hand (c.from-p.ensures ∙ c.entry_of-entry.ensures.processor)

pub loop-x-preserved : goal.loop-x-preserved
loop-x-preserved c =
    swept_more c.args.self.now.sound c.loop-x.invariant (omega arith) (nth_is _ _ _ refl) c.if-self-subtask.false c.entry_of-entry.ensures.start c.if-entry-before.false
    (c.from-p.ensures ∙ c.entry_of-entry.ensures.processor) c.if-entry-until.false
    c.slack_at-slack.ensures c.if-self-subtask-2.false c.end_of.ensures

pub returns : goal.returns
returns c = swept_all c.args.self.now.sound c.loop-x.invariant c.loop-x-test.false
