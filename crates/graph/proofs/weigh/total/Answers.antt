-- `total`: the sum is the total work. Assumes nothing.
use Rattle.std.proofs.Common.{rules, ◌≡◌, ◌∙◌}
use Rattle.std.specs.Prelude.{sum_by}
use Rattle.graph.proofs.PathWeights.{total_items}
use Rattle.graph.proofs.weigh.total.Goals as goal

pub returns : goal.returns
returns c = let e : c.sum.result ≡ sum_by (λ time. time) c.args.times.now = search rules in e ∙ total_items c.args.times.now
