-- `write_text`: the text, or 11. Assumes nothing.
use Rattle.std.proofs.Common.{arith}
use Rattle.writer.proofs.Replied.{writes_none, writes_all}
use Rattle.writer.proofs.write_text.Goals as goal

pub returns-then-text-size : goal.returns-then-text-size
returns-then-text-size c =
    writes_none _ _ _ c.text_size-size.ensures (omega arith)

pub returns : goal.returns
returns c =
    writes_all _ _ (omega arith) (omega arith) c.put_text.ensures.1
