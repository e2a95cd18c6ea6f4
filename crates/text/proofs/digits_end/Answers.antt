-- `digits_end`: the first place without a digit. Assumes nothing.
use Rattle.std.proofs.Common.{sym, ap, ◌∙◌, arith, add-one, drop, length, length-drop}
use Rattle.text.proofs.Places.{digits_stop, digits_go, digits_end, digits_le}
use Rattle.text.proofs.digits_end.Goals as goal

pub returns-then-not-is_ascii_digit : goal.returns-then-not-is_ascii_digit
returns-then-not-is_ascii_digit c =
    omega (arith, ap length (digits_stop c.args.text.now c.loop-i.i (omega arith) (sym c.is_ascii_digit.ensures.value ∙ c.if-not-is_ascii_digit.true)))

pub loop-i-preserved : goal.loop-i-preserved
loop-i-preserved c = rw add-one
    (omega
    (arith, ap length (digits_go c.args.text.now c.loop-i.i (omega arith) (sym c.is_ascii_digit.ensures.value ∙ c.if-not-is_ascii_digit.false))))

pub returns : goal.returns
returns c =
    let text = c.args.text.now in
    omega (arith, ap length (digits_end text c.loop-i.i (omega arith)), digits_le (drop c.args.at text), length-drop c.args.at text)
