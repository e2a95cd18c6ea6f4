-- `next_field`: the digits at a place are that piece of the lent text. Assumes nothing.
use Rattle.std.proofs.Common.{◌≡◌, refl, ℕ, ◌+◌, ◌-◌, List, length, take, drop, arith}
use Rattle.std.proofs.Math.Nat.{add-sub_cancel_left}
use Rattle.terms.specs.Texts.{digits}
use Rattle.text.proofs.Places.{digits_within, digits_part}
use Rattle.text.proofs.next_field.Goals as goal

whole : (s : List ℕ) (at end : ℕ) → end ≡ at + length (digits (drop at s)) → take (end - at) (drop at s) ≡ digits (drop at s)
whole s at end q = rw (q, add-sub_cancel_left) (digits_part (drop at s))

pub slice_bounds-result-end-else-end-at : goal.slice_bounds-result-end-else-end-at
slice_bounds-result-end-else-end-at c = omega (arith, digits_within c.args.text.now c.args.at _ refl (omega arith))

pub returns-else-end-at : goal.returns-else-end-at
returns-else-end-at c = whole c.args.text.now c.args.at c.digits_end-end.result c.digits_end-end.ensures
