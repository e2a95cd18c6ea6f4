-- `lowest_on_cycle`: the first subtask that the arrows lead back to. Assumes nothing.
use Rattle.std.proofs.Common.{arith, below_more}
use Rattle.terms.specs.Graphs.{LeadsTo}
use Rattle.theory.specs.First.{IsFirstSubtask}
use Rattle.theory.proofs.Firsts.{said, unsaid}
use Rattle.graph.proofs.cycle.lowest_on_cycle.Goals as goal

pub returns-then-leads_back : goal.returns-then-leads_back
unfolding IsFirstSubtask
returns-then-leads_back c =
    (record { low = omega (arith, c.requires.0.low); high = c.loop-j-test.true }, said c.if-leads_back.true c.leads_back.ensures, λ k _ l. c.loop-j.invariant k l)

pub returns-else-leads_back : goal.returns-else-leads_back
unfolding IsFirstSubtask
returns-else-leads_back c = λ k a.
    below_more (λ k. ¬ LeadsTo c.args.graph.now.arrows.now k k) _ c.loop-j.invariant (unsaid c.if-leads_back.false c.leads_back.ensures) k (omega (arith, a.high))
