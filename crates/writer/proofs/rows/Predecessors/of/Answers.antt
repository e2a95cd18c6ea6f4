-- `of`: the row of a subtask is a part of the table. Assumes nothing.
use Rattle.writer.proofs.TableRows.{row_part}
use Rattle.writer.proofs.rows.Predecessors.of.Goals as goal

pub returns : goal.returns
returns c =
    row_part c.requires _ _ c.from-from.ensures c.from-to.ensures
