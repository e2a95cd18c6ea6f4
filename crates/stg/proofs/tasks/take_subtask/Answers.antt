-- `take_subtask`: one subtask's line, its time and arrows put down. Assumes nothing.
use Rattle.std.proofs.Common.{arith}
use Rattle.stg.proofs.SubtaskLines.{subtask_bad, subtask_long, subtask_is}
use Rattle.stg.proofs.tasks.take_subtask.Goals as goal

pub returns-in_default : goal.returns-in_default
returns-in_default c = subtask_bad c.args.text.now c.args.at c.args.j c.in_default.ensures

pub returns-in_default-try_from : goal.returns-in_default-try_from
returns-in_default-try_from c =
    subtask_long c.args.text.now c.args.at c.args.j c.in-Some.ensures.1 (omega (arith, c.in_default-try_from.ensures))

pub returns : goal.returns
returns c =
    let (same, line) = c.in-Some.ensures in
    let small = c.in-Ok.ensures in
    (same, subtask_is c.args.text.now c.args.at c.args.j line c.args.times.now c.in-Ok.time (omega (arith, small)) (omega (arith, small)))
