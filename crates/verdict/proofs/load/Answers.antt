-- `load`: the load is the exact quotient, rounded once. Assumes nothing.
use Rattle.std.proofs.Common.{◌^◌, arith, le→leb}
use lib.Ieee.{in_float}
use Rattle.verdict.proofs.Quotient.{rounded_once}
use Rattle.verdict.proofs.load.Goals as goal

pub int_to_float-result : goal.int_to_float-result
unfolding in_float
int_to_float-result c = le→leb c.args.work (2 ^ 24) (omega arith)

pub int_to_float-result-2 : goal.int_to_float-result-2
unfolding in_float
int_to_float-result-2 c =
    le→leb c.args.room (2 ^ 24) (omega arith)

pub returns : goal.returns
returns c =
    rounded_once c.args.work c.args.room (omega arith) (omega arith) (omega arith) (omega arith)
