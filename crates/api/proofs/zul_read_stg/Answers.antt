-- `zul_read_stg`: the reader's reply, made flat; the counts fit 32 bits. Assumes nothing.
use Rattle.api.proofs.Sizes.{in_range}
use Rattle.api.proofs.zul_read_stg.Goals as goal

pub flatten_counts-requires : goal.flatten_counts-requires
flatten_counts-requires c =
    in_range _ _ _ _ _ _ c.read_stg.ensures
