-- `agrees`: a graph that was read stands within the two rows. Assumes nothing.
use Rattle.std.proofs.Common.{arith, sym}
use Rattle.std.proofs.lemmas.List.{length-take-le}
use Rattle.theory.proofs.ReadSizes.{read_sizes}
use Rattle.vectors.proofs.stored.agrees.Goals as goal

pub slice_bounds-times-end : goal.slice_bounds-times-end
slice_bounds-times-end c = omega (arith, (read_sizes _ _ _ _ _ _ c.in-Ok.ensures).0, c.read_stg.auto.times)

pub slice_bounds-graph_agrees-end : goal.slice_bounds-graph_agrees-end
slice_bounds-graph_agrees-end c =
    sym (length-take-le _ _ (omega (arith, (read_sizes _ _ _ _ _ _ c.in-Ok.ensures).0, c.read_stg.auto.times)))

pub slice_bounds-arrows-end : goal.slice_bounds-arrows-end
slice_bounds-arrows-end c = omega (arith, (read_sizes _ _ _ _ _ _ c.in-Ok.ensures).1, c.read_stg.auto.arrows)

pub slice_bounds-graph_agrees-end-in-Ok : goal.slice_bounds-graph_agrees-end-in-Ok
slice_bounds-graph_agrees-end-in-Ok c =
    sym (length-take-le _ _ (omega (arith, (read_sizes _ _ _ _ _ _ c.in-Ok.ensures).1, c.read_stg.auto.arrows)))
