-- `add`: one predecessor more, stored where there is room and counted in any case. Assumes nothing.
use Rattle.std.proofs.Common.{refl, arith}
use Rattle.stg.proofs.AddedArrows.{added_zero, added_out, added_in}
use Rattle.stg.proofs.predecessors.Arrows.add.Goals as goal
use Rattle.stg.proofs.predecessors.Arrows.add.Goals.{then-self, else-self}

pub returns-then-from-eq0 : goal.returns-then-from-eq0
returns-then-from-eq0 c = record { same_row = refl; added = added_zero _ _ _ _ (omega arith) }

pub returns : goal.returns
returns c = elim c.if-self.branch [
  | then-self w ↦ rw w.self-is (record { same_row = refl; added = added_in _ _ _ _ (λ e. omega arith) _ _ w.clip.ensures refl })
  | else-self w ↦ rw w.self-is (record { same_row = refl; added = added_out _ _ _ _ (λ e. omega arith) (omega arith) })
]
