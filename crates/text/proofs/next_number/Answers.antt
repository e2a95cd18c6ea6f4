-- `next_number`: what stands next on the line. Assumes nothing.
use Rattle.std.proofs.Common.{arith}
use Rattle.text.proofs.Places.{digits_within}
use Rattle.text.proofs.Steps.{digits_all, next_none, next_long, next_is}
use Rattle.text.proofs.next_number.Goals as goal

pub value_of-requires : goal.value_of-requires
value_of-requires c =
    (omega arith, omega arith, digits_all c.args.text.now c.blanks_end-start.result _ c.next_field-field.ensures)

pub overflow_add-result : goal.overflow_add-result
overflow_add-result c =
    omega (arith, digits_within c.args.text.now c.blanks_end-start.result _ c.next_field-field.ensures (omega arith))

pub returns-in-0 : goal.returns-in-0
returns-in-0 c =
    next_none _ _ _ c.blanks_end-start.ensures _ c.next_field-field.ensures _ (omega arith) c.no_number.ensures

pub returns-in-1-to-8 : goal.returns-in-1-to-8
returns-in-1-to-8 c =
    next_is _ _ _ c.blanks_end-start.ensures _ c.next_field-field.ensures (λ e. omega arith) _ c.value_of.ensures (omega arith)

pub returns-in_default : goal.returns-in_default
returns-in_default c =
    next_long _ _ _ c.blanks_end-start.ensures _ c.next_field-field.ensures (λ e. omega arith) (omega arith)
