-- `line_end`: the end of the line, or a number stands before it. Assumes nothing.
use Rattle.stg.proofs.NextNumbers.{seen, no_line_end}
use Rattle.stg.proofs.numbers.line_end.Goals as goal

pub returns-in-LineEnd : goal.returns-in-LineEnd
returns-in-LineEnd c = seen c.args.text.now c.args.at _ _ c.in-LineEnd.is c.requires c.next_number.ensures

pub returns-in_default : goal.returns-in_default
returns-in_default c = no_line_end c.args.text.now c.args.at _ c.requires c.next_number.ensures c.in_default.not-LineEnd
