-- `put_rows`: the arrows out of n subtasks, row by row. Assumes nothing.
use Rattle.std.proofs.Common.{rules, ◌≡◌, sym, ◌+◌, ◌-◌, ◌≤◌, length, take, drop, arith, eqb-true}
use Rattle.std.proofs.lemmas.Bool.{eqb-false}
use Rattle.terms.specs.Arrangements.{row_of}
use Rattle.joins.specs.Puts.{Puts, rows_arrows}
use Rattle.joins.proofs.RowByRow.{rows_none, NextRow, targets_room, targets_put, row_room, row_put}
use Rattle.joins.proofs.puts.put_rows.Goals.{After-is_empty, Joined-is_empty, then-is_empty, else-is_empty}
use Rattle.joins.proofs.puts.put_rows.Goals as goal

-- what is known where a row comes next
next : (c : After-is_empty) → NextRow c.args.arrows.now c.args.at c.args.up c.args.n c.args.targets.now c.args.begins.now c.args.numbers.now c.loop-v.arrows c.loop-v.k c.loop-v.v c.from.result c.from-in-loop-v.result
next c = record {
  so_far = c.loop-v.invariant.0;
  rows = c.requires.small_rows.0;
  moves = c.requires.small_rows.1;
  room = c.requires.room;
  is = record { low = omega arith; high = omega arith };
  begin_is = c.from.ensures;
  end_is = c.from-in-loop-v.ensures;
}

-- the row is put
put : (c : Joined-is_empty)
    → NextRow c.args.arrows.now c.args.at c.args.up c.args.n c.args.targets.now c.args.begins.now c.args.numbers.now c.loop-v.arrows c.loop-v.k c.loop-v.v c.from.result c.from-in-loop-v.result
    → Puts c.args.arrows.now c.args.at (rows_arrows c.args.up c.args.n c.args.targets.now (row_of c.args.begins.now c.args.numbers.now) c.loop-v.v) c.if-is_empty.arrows c.if-is_empty.k
put c here = elim c.if-is_empty.branch [
  | then-is_empty w ↦ rw (w.arrows-is, w.k-is) (targets_put here (eqb-true _ _ (sym w.if-is_empty.ensures)) w.put_run.ensures)
  | else-is_empty w ↦ rw (w.arrows-is, w.k-is) (row_put here (eqb-false _ _ (sym w.if-is_empty.ensures)) w.put_run-else-is_empty.ensures)
]

pub loop-v-init : goal.loop-v-init
loop-v-init c = (rows_none _ _ _ _ _ _, omega arith)

pub put_run-requires-clause-room : goal.put_run-requires-clause-room
put_run-requires-clause-room c = targets_room (next (goal.at.put_run-requires-clause-room c).After-is_empty) (eqb-true _ _ (sym c.if-is_empty.ensures))

pub overflow_add-k : goal.overflow_add-k
overflow_add-k c =
    let room : c.loop-v.k + length c.args.targets.now ≤ length c.loop-v.arrows =
    targets_room (next (goal.at.overflow_add-k c).After-is_empty) (eqb-true _ _ (sym c.if-is_empty.ensures)) in
    search (rules, room)

pub put_run-requires-else-is_empty-clause-room : goal.put_run-requires-else-is_empty-clause-room
put_run-requires-else-is_empty-clause-room c =
    row_room (next (goal.at.put_run-requires-else-is_empty-clause-room c).After-is_empty) (eqb-false _ _ (sym c.if-is_empty.ensures))

pub overflow_add-k-else-is_empty : goal.overflow_add-k-else-is_empty
overflow_add-k-else-is_empty c =
    let room : c.loop-v.k + length (take (c.from-in-loop-v.result - c.from.result) (drop c.from.result c.args.numbers.now)) ≤ length c.loop-v.arrows =
    row_room (next (goal.at.overflow_add-k-else-is_empty c).After-is_empty) (eqb-false _ _ (sym c.if-is_empty.ensures)) in
    search (rules, room)

pub loop-v-preserved : goal.loop-v-preserved
loop-v-preserved c =
    let e : c.loop-v.v + 1 - 1 ≡ c.loop-v.v = omega arith in
    (rw e (put (goal.at.loop-v-preserved c).Joined-is_empty (next (goal.at.loop-v-preserved c).After-is_empty)), omega arith)

pub returns : goal.returns
returns c = let e : c.loop-v.v - 1 ≡ c.args.n = omega arith in rw e at c.loop-v.invariant.0

pub returns-after-is_empty : goal.returns-after-is_empty
returns-after-is_empty c = let e : c.loop-v.v ≡ c.args.n = omega arith in rw e at (put (goal.at.returns-after-is_empty c).Joined-is_empty (next (goal.at.returns-after-is_empty c).After-is_empty))
