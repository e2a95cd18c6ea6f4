-- `put_number`: the digits from the last to the first, where there is room for all of them. Assumes nothing.
use Rattle.room.proofs.Digits.{DigitsLeft}
use Rattle.room.proofs.Pen.put_number.Given as goal

abbrev pub invariant-loop-i : goal.invariant-loop-i
invariant-loop-i l = DigitsLeft l.fn.self.text.now l.at l.x l.text l.i l.rest
