-- `first_loop`: the scan answers the first arrow that goes from a subtask to itself. Assumes nothing.
use Rattle.std.proofs.Common.{rules, List, ℕ, [], get_or, ◌≡◌, tests}
use Rattle.std.proofs.lemmas.Iterator.{IsFirst-from_position, YieldsList-from_slice}
use Rattle.terms.specs.Graphs.{from_of, to_of}
use Rattle.graph.proofs.FirstArrows.{first_position}
use Rattle.graph.proofs.scan.first_loop.Goals as goal

abbrev Same : List ℕ → Type 0
Same ends = get_or ends 0 0 ≡ get_or ends 1 0

pub returns : goal.returns
unfolding from_of to_of
returns c =
    first_position [] c.args.arrows.now Same (λ ends. ¬ Same ends) (λ k h. h) (λ k h. h) c.position.result
    (IsFirst-from_position _ _ _ Same (λ ends. ¬ Same ends) c.position.ensures.ran
    (YieldsList-from_slice c.args.arrows.now cc) (λ x q k. search (rules, tests)) (λ x q k. search (rules, tests)))
