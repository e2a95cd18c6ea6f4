-- `zul_side_by_side`: the join's reply, made flat; the counts fit 32 bits. Assumes nothing.
use Rattle.api.proofs.Sizes.{joined_in_range}
use Rattle.api.proofs.zul_side_by_side.Goals as goal

pub flatten_counts-requires : goal.flatten_counts-requires
flatten_counts-requires c =
    joined_in_range _ _ _ _ _ _ _ _ c.side_by_side.ensures
