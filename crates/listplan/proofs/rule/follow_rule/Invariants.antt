-- `follow_rule`: each way round keeps what holds and leaves less to do; at the end the rows hold the list plan. Assumes nothing.
use Rattle.listplan.proofs.Following.{Following}
use Rattle.listplan.proofs.Steps.{to_do}
use Rattle.listplan.proofs.rule.follow_rule.Given as goal

abbrev pub invariant-loop-c : goal.invariant-loop-c
invariant-loop-c l =
    Following l.job.times.now l.job.arrows.now l.job.order.now l.job.m l.t l.c l.left l.marks l.holders.until l.holders.who l.plan l.due l.free.0 l.low

abbrev pub decreases-loop-c : goal.decreases-loop-c
decreases-loop-c l =
    to_do l.job.times.now l.t l.left l.holders.who l.plan
