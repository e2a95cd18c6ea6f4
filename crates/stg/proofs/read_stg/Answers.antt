-- `read_stg`: the reply, with zeros past what it keeps. Assumes nothing.
use Rattle.std.proofs.Common.{length, arith}
use Rattle.stg.proofs.Replied.{reply}
use Rattle.stg.proofs.read_stg.Goals as goal

pub returns : goal.returns
returns c =
    reply (length c.args.times.now) (length c.args.arrows.now) _ _ (omega arith) (omega arith) _ _ c.args.text.now _ _
    c.unwrap_or-kept.ensures c.read_graph-reply.ensures c.clear_past.ensures
