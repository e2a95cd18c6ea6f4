-- `task_line`: a line has the shape of a task's, or has not. Assumes nothing.
use Rattle.stg.proofs.OneLine.{headed, task_none, task_one, task_two, task_bad, task_other, task_miss, task_is}
use Rattle.stg.proofs.tasks.task_line.Goals as goal

pub returns-in_err-index : goal.returns-in_err-index
returns-in_err-index c = rw c.from_residual.ensures (task_none c.args.text.now c.args.at _ c.in_err-index.ensures)

pub returns-then-index-i : goal.returns-then-index-i
returns-then-index-i c = task_other c.args.text.now c.args.at _ c.in_ok-index.ensures c.if-index-i.true

pub returns-in_err-time : goal.returns-in_err-time
returns-in_err-time c =
    rw c.from_residual-in_err-time.ensures (task_one c.args.text.now c.args.at _ c.in_ok-index.ensures c.in_err-time.ensures)

pub returns-in_err-count : goal.returns-in_err-count
returns-in_err-count c =
    rw c.from_residual-in_err-count.ensures (task_two c.args.text.now c.args.at _ c.in_ok-index.ensures c.in_ok-time.ensures c.in_err-count.ensures)

pub returns-in_err-rest : goal.returns-in_err-rest
returns-in_err-rest c =
    let head = headed c.in_ok-index.ensures c.in_ok-time.ensures c.in_ok-count.ensures in
    rw c.from_residual-in_err-rest.ensures (task_bad c.args.text.now c.args.at _ head c.in_err-rest.ensures)

pub returns-then-count-rest : goal.returns-then-count-rest
returns-then-count-rest c =
    let head = headed c.in_ok-index.ensures c.in_ok-time.ensures c.in_ok-count.ensures in
    task_miss c.args.text.now c.args.at _ head c.in_ok-rest.ensures.1 c.if-count-rest.true

pub returns : goal.returns
returns c =
    let head = headed c.in_ok-index.ensures c.in_ok-time.ensures c.in_ok-count.ensures in
    let (same, rest) = c.in_ok-rest.ensures in
    (same, task_is c.args.text.now c.args.at _ head rest c.if-index-i.false c.if-count-rest.false)
