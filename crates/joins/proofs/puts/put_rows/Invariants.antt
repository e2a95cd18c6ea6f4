-- `put_rows`: the arrows out of n subtasks, row by row. Assumes nothing.
use Rattle.std.proofs.Common.{◌+◌, ◌-◌, ◌≤◌}
use Rattle.terms.specs.Arrangements.{row_of}
use Rattle.joins.specs.Puts.{Puts, rows_arrows}
use Rattle.joins.proofs.puts.put_rows.Given as goal

abbrev pub invariant-loop-v : goal.invariant-loop-v
invariant-loop-v l =
    Puts l.initial.arrows l.initial.at (rows_arrows l.initial.up l.initial.n l.initial.targets (row_of l.initial.begins l.initial.numbers) (l.v - 1)) l.arrows l.k
    × (l.v ≤ l.n + 1)
