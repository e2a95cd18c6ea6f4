-- `first_outside`: the scan answers the first arrow that names a subtask outside 1..n. Assumes nothing.
use Rattle.std.proofs.Common.{rules, List, ℕ, [], get_or, tests}
use Rattle.std.proofs.lemmas.Iterator.{IsFirst-from_position, YieldsList-from_slice}
use Rattle.terms.specs.Graphs.{Among, from_of, to_of}
use Rattle.graph.proofs.FirstArrows.{first_position}
use Rattle.graph.proofs.scan.first_outside.Goals as goal

abbrev Named : ℕ → List ℕ → Type 0
Named n ends = Among 1 n (get_or ends 0 0) × Among 1 n (get_or ends 1 0)

pub returns : goal.returns
unfolding from_of to_of
returns c =
    first_position [] c.args.arrows.now (λ ends. ¬ Named c.args.n ends) (Named c.args.n) (λ k h. h) (λ k h out. out h) c.position.result
    (IsFirst-from_position _ _ _ (λ ends. ¬ Named c.args.n ends) (Named c.args.n) c.position.ensures.ran
    (YieldsList-from_slice c.args.arrows.now cc) (λ x q k. search (rules, tests)) (λ x q k. search (rules, tests)))
