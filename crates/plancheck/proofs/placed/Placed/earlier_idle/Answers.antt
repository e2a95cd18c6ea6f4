-- `earlier_idle`: the earliest so far, with one end more. Assumes nothing.
use Rattle.std.proofs.Common.{◌≡◌, ℕ, Option, None, Some, arith}
use Rattle.theory.proofs.Firsts.{said, unsaid}
use Rattle.plancheck.specs.Scans.{SomeIdles}
use Rattle.plancheck.proofs.Counts.{earliest_stays, earliest_moves, earliest_skips}
use Rattle.plancheck.proofs.placed.Placed.earlier_idle.Goals as goal
use Rattle.plancheck.proofs.placed.Placed.earlier_idle.Goals.{in-Some+else-instant-end, in_default}

pub returns-then-instant-end : goal.returns-then-instant-end
returns-then-instant-end c = earliest_stays _ _ _ _ _ _ c.end_of-end.ensures _ (rw c.in-Some.is at c.requires.earliest) c.if-instant-end.true

pub returns-then-some_idles : goal.returns-then-some_idles
returns-then-some_idles c =
    earliest_moves _ _ _ _ _ _ c.end_of-end.ensures _ c.requires.earliest
    (λ t e. elim c.match-found.branch [
      | in-Some+else-instant-end w ↦ let same : w.in-Some.instant ≡ t = cc (w.in-Some.is, e) in omega (arith, same, w.if-instant-end.false)
      | in_default w ↦ let is : ◌≡◌ {A = Option ℕ} None (Some t) = cc (w.in_default.is, e) in cc
    ])
    (said {P = SomeIdles c.args.self.now.times.now c.args.self.now.plan.now c.args.self.now.ready.now c.args.self.now.m c.end_of-end.result} c.if-some_idles.true c.some_idles.ensures)

pub returns : goal.returns
returns c =
    earliest_skips _ _ _ _ _ _ c.end_of-end.ensures _
    (elim c.match-found.branch [
      | in-Some+else-instant-end w ↦ rw w.found-is (rw w.in-Some.is at c.requires.earliest)
      | in_default w ↦ rw w.found-is c.requires.earliest
    ])
    (unsaid {P = SomeIdles c.args.self.now.times.now c.args.self.now.plan.now c.args.self.now.ready.now c.args.self.now.m c.end_of-end.result} c.if-some_idles.false c.some_idles.ensures)
