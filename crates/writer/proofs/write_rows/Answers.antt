-- `write_rows`: the text of an accepted graph, over its rows of predecessors. Assumes nothing.
use Rattle.std.proofs.Common.{arith, length}
use Rattle.terms.specs.Arrangements.{lasts_of}
use Rattle.arranged.proofs.NoArrows.{Leads, front_lasts}
use Rattle.writer.proofs.Replied.{front_short, rows_stand, written_rows}
use Rattle.writer.proofs.write_rows.Goals as goal

pub write_text-requires : goal.write_text-requires
write_text-requires c =
    let listed : Leads (lasts_of (length c.args.times.now) c.args.arrows.now) c.lasts-count.new.list c.lasts-count.result =
    front_lasts c.requires.sound c.lasts-count.ensures in (
      rows_stand c.requires,
      omega (arith, listed.few, front_short c.lasts-count.result c.lasts-count.new.list),
    )

pub returns : goal.returns
returns c =
    let listed : Leads (lasts_of (length c.args.times.now) c.args.arrows.now) c.lasts-count.new.list c.lasts-count.result =
    front_lasts c.requires.sound c.lasts-count.ensures in
    written_rows c.requires _ _ _ _ listed.same c.write_text.ensures
