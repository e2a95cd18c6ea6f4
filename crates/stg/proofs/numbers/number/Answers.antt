-- `number`: the number that stands next, or none does. Assumes nothing.
use Rattle.stg.proofs.NextNumbers.{seen, no_field}
use Rattle.stg.proofs.numbers.number.Goals as goal

pub returns-in-Field : goal.returns-in-Field
returns-in-Field c = seen c.args.text.now c.args.at _ _ c.in-Field.is c.requires c.next_number.ensures

pub returns-in_default : goal.returns-in_default
returns-in_default c = no_field c.args.text.now c.args.at _ c.requires c.next_number.ensures c.in_default.not-Field
