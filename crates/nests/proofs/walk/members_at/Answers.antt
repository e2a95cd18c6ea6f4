-- `members_at`: how many members the opener at a place has, or none. Assumes nothing.
use Rattle.std.proofs.Common.{[], arith}
use Rattle.nests.proofs.Entries.{no_opener_past, no_opener_here, opener_here}
use Rattle.nests.proofs.walk.members_at.Goals as goal

pub returns-in_err-number : goal.returns-in_err-number
returns-in_err-number c = rw c.from_residual.ensures (no_opener_past c.args.row.now c.args.at _ c.in_err-number.ensures.lookup.3)

pub returns-then-number-kind : goal.returns-then-number-kind
returns-then-number-kind c =
    let entry = c.in_ok-number.ensures.lookup.3 in
    no_opener_here c.args.row.now _ _ entry.0 (entry.1 []) _ (λ o. c.if-number-kind.true o.kind_is)

pub returns-then-last-ne0 : goal.returns-then-last-ne0
returns-then-last-ne0 c =
    let entry = c.in_ok-number.ensures.lookup.3 in
    no_opener_here c.args.row.now _ _ entry.0 (entry.1 []) _ (λ o. c.if-last-ne0.true o.last_is)

pub returns-then-members-lt1 : goal.returns-then-members-lt1
returns-then-members-lt1 c =
    let entry = c.in_ok-number.ensures.lookup.3 in
    no_opener_here c.args.row.now _ _ entry.0 (entry.1 []) _ (λ o. omega (arith, c.if-members-lt1.true, o.many.low))

pub returns-then-members-gt16 : goal.returns-then-members-gt16
returns-then-members-gt16 c =
    let entry = c.in_ok-number.ensures.lookup.3 in
    no_opener_here c.args.row.now _ _ entry.0 (entry.1 []) _ (λ o. omega (arith, c.if-members-gt16.true, o.many.high))

pub returns : goal.returns
returns c =
    let entry = c.in_ok-number.ensures.lookup.3 in
    opener_here c.args.row.now _ _ entry.0 (entry.1 []) _ (record {
      kind_is = c.if-number-kind.false;
      many = record { low = c.if-members-lt1.false; high = c.if-members-gt16.false };
      last_is = c.if-last-ne0.false;
    })
