-- `following_line`: a comment, or a line without numbers. Assumes nothing.
use Rattle.std.proofs.Common.{arith}
use Rattle.stg.proofs.Followers.{follower_comment, followed}
use Rattle.stg.proofs.outer_lines.following_line.Goals as goal

pub returns-then-text-at-eq35 : goal.returns-then-text-at-eq35
returns-then-text-at-eq35 c = follower_comment c.args.text.now _ (omega arith) _ c.if-text-at-eq35.true c.line_after.ensures

pub returns : goal.returns
returns c = followed c.args.text.now c.args.at (omega arith) c.if-text-at-eq35.false _ c.line_end.ensures
