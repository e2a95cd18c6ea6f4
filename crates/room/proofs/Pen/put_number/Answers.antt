-- `put_number`: the digits from the last to the first, where there is room for all of them. Assumes nothing.
use Rattle.std.proofs.Common.{refl, arith}
use Rattle.room.proofs.Digits.{digits_step, digits_first, digits_end}
use Rattle.room.proofs.Pen.put_number.Goals as goal

pub loop-i-preserved : goal.loop-i-preserved
loop-i-preserved c = digits_step c.loop-i-test.true c.loop-i.invariant

pub overflow_cast-text-2 : goal.overflow_cast-text-2
overflow_cast-text-2 c = omega (arith, digits_first c.loop-i-test.false c.loop-i.invariant)

pub overflow_add-text-2 : goal.overflow_add-text-2
overflow_add-text-2 c = omega (arith, digits_first c.loop-i-test.false c.loop-i.invariant)

pub returns : goal.returns
returns c = record {
  same_room = refl;
  put = digits_end _ c.loop-i-test.false (omega (arith, c.number_size-size.ensures.0)) (omega arith) c.loop-i.invariant;
}
