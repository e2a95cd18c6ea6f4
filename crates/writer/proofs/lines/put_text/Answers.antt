-- `put_text`: the parts of the text, one behind the other. Assumes nothing.
use Rattle.std.proofs.Common.{arith, rules, sym, ◌∙◌}
use Rattle.writer.proofs.WholeTexts.{entry_room, subtasks_room, exit_room, text_stands, left_in}
use Rattle.writer.proofs.lines.put_text.Goals as goal

pub put_line-requires : goal.put_line-requires
put_line-requires c =
    (omega arith, entry_room _ _ _ _ c.requires.2 c.put_number.ensures.put c.end_line.ensures.put)

pub put_subtasks-requires : goal.put_subtasks-requires
put_subtasks-requires c = (
  c.requires.0,
  subtasks_room _ _ _ _ c.requires.2 c.put_number.ensures.put c.end_line.ensures.put
      c.put_line.ensures.stands,
)

pub put_line-requires-2 : goal.put_line-requires-2
put_line-requires-2 c = (
  c.requires.1,
  exit_room _ _ _ _ c.requires.2 c.put_number.ensures.put c.end_line.ensures.put
      c.put_line.ensures.stands c.put_subtasks.ensures.stands,
)

pub returns : goal.returns
returns c =
    let names =
    c.put_line-2.ensures.same_room ∙ c.put_subtasks.ensures.same_room ∙ c.put_line.ensures.same_room ∙ c.end_line.ensures.same_room
    ∙ c.put_number.ensures.same_room in
    left_in _ (search (rules, sym names))
    (text_stands _ _ _ _ c.requires.2 c.put_number.ensures.put c.end_line.ensures.put c.put_line.ensures.stands c.put_subtasks.ensures.stands
    c.put_line-2.ensures.stands)
