-- `zul_write_stg`: the writer's reply, made flat; the length fits 32 bits. Assumes nothing.
use Rattle.std.proofs.Common.{◌-◌, arith}
use Rattle.terms.specs.Graphs.{time_of, In16Bits}
use Rattle.api.proofs.Sizes.{is_short}
use Rattle.api.proofs.zul_write_stg.Goals as goal

pub flatten_written-requires : goal.flatten_written-requires
unfolding time_of
flatten_written-requires c =
    -- the times are lent in 16 bits
    let bits : In16Bits c.args.times.now =
    λ j s. omega (arith, c.shared_slice_known-1.given (j - 1)) in
    is_short _ _ _ _ _ bits c.write_stg.ensures
