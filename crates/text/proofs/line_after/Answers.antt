-- `line_after`: the place behind the next LF, or the end. Assumes nothing.
use Rattle.std.proofs.Common.{arith, add-one, drop, length-drop}
use Rattle.text.proofs.Places.{size_stop, size_go, size_none, size_le}
use Rattle.text.proofs.line_after.Goals as goal

pub returns-then-text-i-eq10 : goal.returns-then-text-i-eq10
returns-then-text-i-eq10 c = omega (arith, size_stop c.args.text.now c.loop-i.i (omega arith) (omega arith))

pub loop-i-preserved : goal.loop-i-preserved
loop-i-preserved c = rw add-one (omega (arith, size_go c.args.text.now c.loop-i.i (omega arith) (λ e. omega arith)))

pub returns : goal.returns
returns c =
    let text = c.args.text.now in
    omega (arith, size_none text c.loop-i.i (omega arith), size_le (drop c.args.at text), length-drop c.args.at text)
