-- `first_line`: one number, of 1..256. Assumes nothing.
use Rattle.std.proofs.Common.{arith}
use Rattle.stg.proofs.OneLine.{first_none, first_more, first_low, first_high, first_is}
use Rattle.stg.proofs.outer_lines.first_line.Goals as goal

pub returns-in_default : goal.returns-in_default
returns-in_default c = first_none c.args.text.now c.in_default.ensures

pub returns-in_default-line_end : goal.returns-in_default-line_end
returns-in_default-line_end c = first_more c.in-Some.ensures c.in_default-line_end.ensures

pub returns-in-1-to-256 : goal.returns-in-1-to-256
returns-in-1-to-256 c = first_is c.in-Some.ensures c.in-Some-line_end.ensures (omega arith) (omega arith)

pub returns-in_default-n : goal.returns-in_default-n
returns-in_default-n c = first_low c.in-Some.ensures c.in-Some-line_end.ensures (omega arith)

pub returns-in_default-n-2 : goal.returns-in_default-n-2
returns-in_default-n-2 c = first_high c.in-Some.ensures c.in-Some-line_end.ensures (omega arith)
