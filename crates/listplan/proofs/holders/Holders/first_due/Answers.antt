-- `first_due`: the first processor with an end by t. Assumes nothing.
use Rattle.std.proofs.Common.{◌≡◌, ◌+◌, arith}
use Rattle.listplan.specs.Making.{FirstOf}
use Rattle.listplan.proofs.Scans.{found}
use Rattle.listplan.proofs.holders.Holders.first_due.Goals as goal

pub returns-then-self-p : goal.returns-then-self-p
unfolding FirstOf
returns-then-self-p c =
    (record { low = c.loop-p.invariant.0; high = omega arith }, found c.loop-p.invariant.1 (record { one = c.loop-p.invariant.0; by = c.if-self-p.true }))

pub returns : goal.returns
unfolding FirstOf
returns c = let e : c.loop-p.p ≡ c.args.m + 1 = omega (arith, c.loop-p.invariant.1.within) in rw e at c.loop-p.invariant.1
