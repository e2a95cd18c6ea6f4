-- `run`: a graph that was read stands within the two rows. Assumes nothing.
use Rattle.std.proofs.Common.{arith, sym}
use Rattle.std.proofs.lemmas.List.{length-take-le}
use Rattle.theory.proofs.ReadSizes.{read_sizes}
use Rattle.frames.proofs.run.Goals as goal

pub slice_bounds-times-end : goal.slice_bounds-times-end
slice_bounds-times-end g c = omega (arith, (read_sizes _ _ _ _ _ _ c.in-Ok.ensures).0, c.read_stg.auto.times)

pub slice_bounds-table-end : goal.slice_bounds-table-end
slice_bounds-table-end g c =
    sym (length-take-le _ _ (omega (arith, (read_sizes _ _ _ _ _ _ c.in-Ok.ensures).0, c.read_stg.auto.times)))

pub slice_bounds-arrows-end : goal.slice_bounds-arrows-end
slice_bounds-arrows-end g c = omega (arith, (read_sizes _ _ _ _ _ _ c.in-Ok.ensures).1, c.read_stg.auto.arrows)

pub slice_bounds-table-end-in-Ok : goal.slice_bounds-table-end-in-Ok
slice_bounds-table-end-in-Ok g c =
    sym (length-take-le _ _ (omega (arith, (read_sizes _ _ _ _ _ _ c.in-Ok.ensures).1, c.read_stg.auto.arrows)))
