-- `take_predecessors`: the rest of a line, predecessor by predecessor. Assumes nothing.
use Rattle.std.proofs.Common.{refl, ◌∙◌, arith}
use Rattle.text.specs.Standing.{Passed}
use Rattle.stg.proofs.NextNumbers.{seen}
use Rattle.stg.proofs.RestOfLine.{passing_more, passing_bad, passing_end}
use Rattle.stg.proofs.predecessors.take_predecessors.Goals as goal

pub returns-in-Misshapen : goal.returns-in-Misshapen
returns-in-Misshapen c =
    passing_bad c.loop-next.invariant.1 (seen c.args.text.now c.loop-next.here _ _ c.in-Misshapen.is (omega arith) c.next_number.ensures)

pub returns-in-LineEnd : goal.returns-in-LineEnd
returns-in-LineEnd c = (
  c.loop-next.invariant.0,
  passing_end c.loop-next.invariant.1 (seen c.args.text.now c.loop-next.here _ _ c.in-LineEnd.is (omega arith) c.next_number.ensures),
)

pub loop-next-smaller : goal.loop-next-smaller
loop-next-smaller c =
    let passed : Passed c.args.text.now c.loop-next.here c.in-Field.p c.in-Field.past =
    seen c.args.text.now c.loop-next.here _ _ c.in-Field.is (omega arith) c.next_number.ensures in
    omega arith

pub loop-next-preserved : goal.loop-next-preserved
loop-next-preserved c = (
  c.add.ensures.same_row ∙ c.loop-next.invariant.0,
  passing_more c.loop-next.invariant.1 (seen c.args.text.now c.loop-next.here _ _ c.in-Field.is (omega arith) c.next_number.ensures)
      refl c.add.ensures.added,
)
