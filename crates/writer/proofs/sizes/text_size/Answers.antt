-- `text_size`: the lengths of the parts, together. Assumes nothing.
use Rattle.writer.proofs.WholeTexts.{text_counted}
use Rattle.writer.proofs.sizes.text_size.Goals as goal

pub returns : goal.returns
returns c =
    text_counted _ _ _ _ _ _ _ _ c.number_size.ensures.0 c.line_size.ensures.0
    c.subtasks_size.ensures.0 c.line_size-2.ensures.0
