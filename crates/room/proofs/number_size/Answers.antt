-- `number_size`: as many digits as the number has. Assumes nothing.
use Rattle.std.proofs.Common.{ap, length, arith}
use Rattle.theory.proofs.Decimals.{decimal_digit, decimal_size}
use Rattle.room.proofs.number_size.Goals as goal

pub returns-in-0-to-9 : goal.returns-in-0-to-9
returns-in-0-to-9 c = (omega (arith, ap length (decimal_digit c.args.x (omega arith))), omega arith, omega arith)

pub returns-in-10-to-99 : goal.returns-in-10-to-99
returns-in-10-to-99 c = (omega (arith, decimal_size 1 c.args.x (omega arith) (omega arith)), omega arith, omega arith)

pub returns-in-100-to-999 : goal.returns-in-100-to-999
returns-in-100-to-999 c = (omega (arith, decimal_size 2 c.args.x (omega arith) (omega arith)), omega arith, omega arith)

pub returns-in-1000-to-9999 : goal.returns-in-1000-to-9999
returns-in-1000-to-9999 c = (omega (arith, decimal_size 3 c.args.x (omega arith) (omega arith)), omega arith, omega arith)

pub returns-in-10000-to-99999 : goal.returns-in-10000-to-99999
returns-in-10000-to-99999 c = (omega (arith, decimal_size 4 c.args.x (omega arith) (omega arith)), omega arith, omega arith)

pub returns-in-100000-to-999999 : goal.returns-in-100000-to-999999
returns-in-100000-to-999999 c = (omega (arith, decimal_size 5 c.args.x (omega arith) (omega arith)), omega arith, omega arith)

pub returns-in-1000000-to-9999999 : goal.returns-in-1000000-to-9999999
returns-in-1000000-to-9999999 c = (omega (arith, decimal_size 6 c.args.x (omega arith) (omega arith)), omega arith, omega arith)

pub returns-in-10000000-to-99999999 : goal.returns-in-10000000-to-99999999
returns-in-10000000-to-99999999 c = (omega (arith, decimal_size 7 c.args.x (omega arith) (omega arith)), omega arith, omega arith)

pub returns-in-100000000-to-999999999 : goal.returns-in-100000000-to-999999999
returns-in-100000000-to-999999999 c = (omega (arith, decimal_size 8 c.args.x (omega arith) (omega arith)), omega arith, omega arith)

pub returns-in_default : goal.returns-in_default
returns-in_default c = (omega (arith, decimal_size 9 c.args.x (omega arith) (omega arith)), omega arith, omega arith)
