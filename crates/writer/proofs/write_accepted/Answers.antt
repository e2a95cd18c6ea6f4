-- `write_accepted`: the text of an accepted graph, or 11. Assumes nothing.
use Rattle.writer.proofs.Replied.{none_refused, sound_arranged}
use Rattle.writer.proofs.write_accepted.Goals as goal

pub unreachable-requires : goal.unreachable-requires
unreachable-requires c = none_refused _ _ c.requires _ _ _ c.in_default.field-0 c.in_default.ensures

pub write_rows-requires : goal.write_rows-requires
write_rows-requires c =
    sound_arranged _ _ c.requires _ _ _ c.by_to.ensures
