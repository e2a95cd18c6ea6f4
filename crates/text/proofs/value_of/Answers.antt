-- `value_of`: the number of a field, digit by digit. Assumes nothing.
use Rattle.std.proofs.Common.{◌+◌, arith}
use Rattle.text.proofs.Digits.{behind_first, digit_at, made_all, made_first, made_more}
use Rattle.text.proofs.value_of.Goals as goal

pub overflow_sub-field : goal.overflow_sub-field
overflow_sub-field c = (digit_at c.args.field.now 0 c.requires.2 (omega arith)).0

pub loop-b-init : goal.loop-b-init
loop-b-init c = made_first c.args.field.now c.requires.2 c.from-number.result (omega arith) (omega arith)

pub overflow_sub-b : goal.overflow_sub-b
overflow_sub-b c =
    let field = c.args.field.now in
    omega (arith, behind_first field c.loop-b.b-index, digit_at field (c.loop-b.b-index + 1) c.requires.2 (omega arith))

pub loop-b-preserved : goal.loop-b-preserved
loop-b-preserved c =
    let field = c.args.field.now in
    let at = c.loop-b.b-index in
    made_more field c.requires.2 c.from.result c.loop-b.number (at + 1) c.loop-b.invariant (omega arith) (omega (arith, behind_first field at))

pub returns : goal.returns
returns c = made_all c.args.field.now c.loop-b.number (c.loop-b.b-index + 1) c.loop-b.invariant (omega arith)
