-- `first_repeat`: the scan along the chains answers the first arrow that is the same as one before it. Assumes nothing.
use Rattle.std.proofs.Common.{◌≡◌, sym, ◌∙◌, ◌<◌, ◌+◌, get_or, arith}
use Rattle.graph.proofs.Chained.{Looks, looks}
use Rattle.graph.proofs.RepeatedArrows.{before_start, before_end, met_begin, met_end, met_other, met_same}
use Rattle.graph.proofs.scan.first_repeat.Goals.{then-from-v, else-from-v}
use Rattle.graph.proofs.scan.first_repeat.Goals as goal

pub loop-v-init : goal.loop-v-init
loop-v-init c = before_start c.args.graph.now.tidy

pub loop-c-init : goal.loop-c-init
loop-c-init c = rw c.begin-c.ensures (met_begin c.args.graph.now.tidy c.args.graph.now.linked (omega (arith, c.args.graph.now.tidy.subtasks)) c.loop-v.invariant)

pub loop-c-preserved : goal.loop-c-preserved
loop-c-preserved c =
    let at : Looks c.args.graph.now.n c.args.graph.now.arrows.now c.loop-v.v c.loop-c.c c.source-from.result.0 =
    looks c.args.graph.now.tidy c.loop-c.invariant.along c.loop-c-test.true c.source-from.ensures.0 in
    rw c.after-c.ensures (elim c.if-from-v.branch [
      | then-from-v w ↦ let met : w.from-then-from-v.result ≡ get_or c.loop-c.met c.source-from.result.0 0 = w.from-then-from-v.ensures in
          let e : get_or c.loop-c.seen c.source-from.result.0 0 ≡ c.loop-v.v = sym c.from.ensures ∙ w.if-from-v.true in
          rw (w.found-is, w.earlier.ensures, met) (met_same c.args.graph.now.tidy c.args.graph.now.linked c.loop-c.invariant at e)
      | else-from-v w ↦ rw w.found-is (met_other c.args.graph.now.tidy c.args.graph.now.linked c.loop-c.invariant at (λ e. w.if-from-v.false (c.from.ensures ∙ e)))
    ])

pub loop-v-preserved : goal.loop-v-preserved
loop-v-preserved c = met_end c.args.graph.now.tidy c.args.graph.now.linked c.loop-c.invariant c.loop-c-test.false

pub returns : goal.returns
returns c = before_end c.args.graph.now.tidy c.loop-v-test.false c.loop-v.invariant

pub returns-2 : goal.returns-2
returns-2 c = let all : c.args.graph.now.n < c.loop-v.v + 1 = omega arith in before_end c.args.graph.now.tidy all (met_end c.args.graph.now.tidy c.args.graph.now.linked c.loop-c.invariant c.loop-c-test.false)
