-- `none`: a table without marks. Assumes nothing.
use Rattle.std.proofs.Common.{refl}
use Rattle.listplan.proofs.Bits.{all_unmarked, none_true}
use Rattle.listplan.proofs.marks.Marks.none.Goals as goal

pub invariant_of-result : goal.invariant_of-result
invariant_of-result c = (refl, record { long = refl; none = λ y b z. none_true (all_unmarked 256 y) })
