-- `graph_at`: the graph at a place, or none. Assumes nothing.
use Rattle.std.proofs.Common.{[], arith}
use Rattle.nests.proofs.Entries.{no_graph_past, no_graph_here, graph_here}
use Rattle.nests.proofs.walk.graph_at.Goals as goal

pub returns-in_err-number : goal.returns-in_err-number
returns-in_err-number c = rw c.from_residual.ensures (no_graph_past c.args.row.now c.args.at c.in_err-number.ensures.lookup.3)

pub returns-then-number-ne0 : goal.returns-then-number-ne0
returns-then-number-ne0 c =
    let entry = c.in_ok-number.ensures.lookup.3 in
    no_graph_here c.args.row.now _ _ entry.0 (entry.1 []) (λ g. c.if-number-ne0.true g.kind_is)

pub returns-then-p-lt1 : goal.returns-then-p-lt1
returns-then-p-lt1 c =
    let entry = c.in_ok-number.ensures.lookup.3 in
    no_graph_here c.args.row.now _ _ entry.0 (entry.1 []) (λ g. omega (arith, c.if-p-lt1.true, g.in_range.path.low))

pub returns-then-c-p : goal.returns-then-c-p
returns-then-c-p c =
    let entry = c.in_ok-number.ensures.lookup.3 in
    no_graph_here c.args.row.now _ _ entry.0 (entry.1 []) (λ g. omega (arith, c.if-c-p.true, g.in_range.path.high))

pub returns-then-c-gt16776960 : goal.returns-then-c-gt16776960
returns-then-c-gt16776960 c =
    let entry = c.in_ok-number.ensures.lookup.3 in
    no_graph_here c.args.row.now _ _ entry.0 (entry.1 []) (λ g. omega (arith, c.if-c-gt16776960.true, g.in_range.work))

pub returns : goal.returns
returns c =
    let entry = c.in_ok-number.ensures.lookup.3 in
    graph_here c.args.row.now _ _ entry.0 (entry.1 []) (record {
      kind_is = c.if-number-ne0.false;
      in_range = record { path = record { low = c.if-p-lt1.false; high = c.if-c-p.false }; work = c.if-c-gt16776960.false };
    })
