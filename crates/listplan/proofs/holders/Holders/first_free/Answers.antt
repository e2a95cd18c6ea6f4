-- `first_free`: the first processor that nobody is on. Assumes nothing.
use Rattle.std.proofs.Common.{◌≡◌, ◌+◌, arith}
use Rattle.listplan.specs.Making.{FirstOf}
use Rattle.listplan.proofs.Scans.{found}
use Rattle.listplan.proofs.holders.Holders.first_free.Goals as goal

pub returns-then-self-p-eq0 : goal.returns-then-self-p-eq0
unfolding FirstOf
returns-then-self-p-eq0 c =
    (record { low = c.loop-p.invariant.0; high = omega arith }, found c.loop-p.invariant.1 (record { one = c.loop-p.invariant.0; nobody = c.if-self-p-eq0.true }))

pub returns : goal.returns
unfolding FirstOf
returns c = let e : c.loop-p.p ≡ c.args.m + 1 = omega (arith, c.loop-p.invariant.1.within) in rw e at c.loop-p.invariant.1
