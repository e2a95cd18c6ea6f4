-- `may_end`: only lines that may follow stand from here on. Assumes nothing.
use Rattle.std.proofs.Common.{◌∙◌, arith}
use Rattle.stg.proofs.Followers.{trailer_more, trailer_stop, trailer_end}
use Rattle.stg.proofs.outer_lines.may_end.Goals as goal

pub returns-in_default : goal.returns-in_default
returns-in_default c =
    c.loop-here.invariant.1 ∙ trailer_stop c.args.text.now c.loop-here.here (omega arith) c.in_default.ensures

pub loop-here-preserved : goal.loop-here-preserved
loop-here-preserved c =
    let next = c.in-Some.ensures in
    (next.inside, c.loop-here.invariant.1 ∙ trailer_more c.args.text.now c.loop-here.here (omega arith) _ next)

pub returns : goal.returns
returns c =
    c.loop-here.invariant.1 ∙ trailer_end c.args.text.now c.loop-here.here (omega arith)
