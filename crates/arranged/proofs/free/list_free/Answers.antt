-- `list_free`: those that are marked, one by one. Assumes nothing.
use Rattle.std.proofs.Common.{◌≡◌, sym, ◌∙◌, ◌+◌, ◌-◌, ◌≤◌, suc, arith}
use Rattle.std.specs.Prelude.{min}
use Rattle.arranged.proofs.NoArrows.{FrontTo, front_none, front_also, front_but, marked, front_all}
use Rattle.arranged.proofs.free.list_free.Goals.{Joined-free-j, then-free-j, else-free-j}
use Rattle.arranged.proofs.free.list_free.Goals as goal

-- with j
next : (c : Joined-free-j) → FrontTo c.args.side c.args.arrows.now c.args.list.now c.if-free-j.list (min c.args.n 256) c.if-free-j.count c.loop-j.j
next c =
    let small : min c.args.n 256 ≤ 256 = omega arith in
    let e : c.loop-j.j ≡ suc (c.loop-j.j - 1) = omega arith in
    let l : c.loop-j.j ≤ min c.args.n 256 = omega arith in
    let far = c.loop-j.invariant in
    let mark = marked c.told-list far small e l c.mark_free-free.ensures in
    elim c.if-free-j.branch [
      | then-free-j w ↦ rw (w.list-is, w.count-is) (front_also c.told-list far small e l (sym mark ∙ w.if-free-j.true))
      | else-free-j w ↦ rw (w.list-is, w.count-is) (front_but c.told-list far small e l (sym mark ∙ w.if-free-j.false))
    ]

pub loop-j-init : goal.loop-j-init
loop-j-init c = front_none c.told-list

pub loop-j-preserved : goal.loop-j-preserved
loop-j-preserved c = let e : c.loop-j.j + 1 - 1 ≡ c.loop-j.j = omega arith in rw e (next (goal.at.loop-j-preserved c).Joined-free-j)

pub returns : goal.returns
returns c = front_all _ (omega arith) c.loop-j.invariant

pub returns-after-free-j : goal.returns-after-free-j
returns-after-free-j c = front_all _ (omega arith) (next (goal.at.returns-after-free-j c).Joined-free-j)
