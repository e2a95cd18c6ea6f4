-- `refused`: the answer with a refusal has no figures. Assumes nothing.
use Rattle.std.proofs.Common.{refl}
use lib.Ieee.{of_bits}
use Rattle.verdict.proofs.refused.Goals as goal

pub returns : goal.returns
unfolding of_bits
returns c = (refl, refl)
