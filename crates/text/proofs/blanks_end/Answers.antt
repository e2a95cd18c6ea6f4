-- `blanks_end`: the first place without a space or a tab. Assumes nothing.
use Rattle.std.proofs.Common.{sym, ◌∙◌, arith, add-one, drop, length-drop}
use Rattle.text.proofs.Places.{blanks_stop, blanks_go, blanks_end, blanks_le}
use Rattle.text.proofs.blanks_end.Goals as goal

pub returns-then-not-is_blank : goal.returns-then-not-is_blank
returns-then-not-is_blank c = omega (arith, blanks_stop c.args.text.now c.loop-i.i (omega arith) (sym c.is_blank.ensures ∙ c.if-not-is_blank.true))

pub loop-i-preserved : goal.loop-i-preserved
loop-i-preserved c = rw add-one
    (omega (arith, blanks_go c.args.text.now c.loop-i.i (omega arith) (sym c.is_blank.ensures ∙ c.if-not-is_blank.false)))

pub returns : goal.returns
returns c =
    let text = c.args.text.now in
    omega (arith, blanks_end text c.loop-i.i (omega arith), blanks_le (drop c.args.at text), length-drop c.args.at text)
