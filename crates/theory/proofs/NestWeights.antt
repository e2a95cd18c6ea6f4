-- The C and P of a nest are those of its graphs joined as it says: the reply for the nest is the reply for the joined graph. Assumes nothing.
use Rattle.std.proofs.Common.{◌≡◌, sym, ap, ◌∙◌, List, ℕ, ◌+◌, ◌≤◌, arith}
use Rattle.terms.specs.Paths.{total_work, IsLongest}
use Rattle.terms.specs.Refusals.{graph_rows}
use Rattle.terms.specs.Replies.{IsMeasure, IsNestMeasure}
use Rattle.terms.specs.Joins.{Graph, Way, end_to_end, side_by_side, joined, WithinLimits}
use Rattle.terms.specs.Nests.{Members, Nest, count, work_of, together, path_of, Ruled, IsNest}
use Rattle.terms.specs.NestGraphs.{ahead, whole, HasWeights, Carries, carries_none, carries_graph, carries_opener}
use Rattle.terms.specs.declared.Weights.{Weights}
use Rattle.theory.specs.Joined.{Faultless}
use Rattle.theory.proofs.Faultless.{accepted_faultless, accepted}
use Rattle.theory.proofs.JoinedSound.{joined_faultless, joined_work}
use Rattle.theory.proofs.JoinedPaths.{longest_end_to_end, longest_side_by_side}
use Rattle.theory.proofs.Together.{together_none}
use Rattle.theory.proofs.OneNest.{one_nest, not_refused}
use Rattle.std.specs.Prelude.{Result, Ok, Err}
use Rattle.terms.specs.declared.Refusal.{Refusal}

-- a graph without fault, and its C and P
record Weighs (g : Graph) (C P : ℕ) : Type 0 where
  pub faultless : Faultless g
  pub work : total_work g.times ≡ C
  pub path : IsLongest g.times g.arrows P

-- ---- one join

joined_path : (way : Way) {a b : Graph} {P Q : ℕ} → Faultless a → Faultless b → IsLongest a.times a.arrows P → IsLongest b.times b.arrows Q
    → IsLongest (joined way a b).times (joined way a b).arrows (together way P Q)
joined_path end_to_end f g l m = longest_end_to_end f g l m
joined_path side_by_side f g l m = longest_side_by_side f g l m

joined_weighs : (way : Way) {a b : Graph} {C D P Q : ℕ} → Weighs a C P → Weighs b D Q → Weighs (joined way a b) (C + D) (together way P Q)
joined_weighs way {a} {b} p q = record {
  faultless = joined_faultless way p.faultless q.faultless;
  work = omega (arith, joined_work way a b, p.work, q.work);
  path = joined_path way p.faultless q.faultless p.path q.path;
}

-- ---- all of them

-- a graph with the rest behind or beside it, where there is a rest
ahead_weighs : {way : Way} {a : Graph} {C P : ℕ} {rest : Members Graph way} {nest : Members Weights way} → Weighs a C P → Carries way rest nest
    → (1 ≤ count nest → Weighs (whole rest) (work_of nest) (path_of nest)) → Weighs (ahead a rest (whole rest)) (C + work_of nest) (together way P (path_of nest))
unfolding ahead count work_of path_of
ahead_weighs {way} {P = P} p carries_none r = record { faultless = p.faultless; work = omega (arith, p.work); path = rw (together_none way P) p.path }
ahead_weighs {way} p (carries_graph h c) r = joined_weighs way p (r (omega arith))
ahead_weighs {way} p (carries_opener d c) r = joined_weighs way p (r (omega arith))

-- every opener has a member
whole_weighs : {way : Way} {graphs : Members Graph way} {nest : Members Weights way} → Carries way graphs nest → Ruled nest → 1 ≤ count nest
    → Weighs (whole graphs) (work_of nest) (path_of nest)
unfolding whole count work_of path_of Ruled
whole_weighs carries_none r l = absurd (omega arith)
whole_weighs (carries_graph h c) r l =
    ahead_weighs (record { faultless = accepted_faultless _ h.accepted; work = h.work; path = h.path }) c (whole_weighs c r.1)
whole_weighs (carries_opener d c) r l = ahead_weighs (whole_weighs d r.1 r.0.low) c (whole_weighs c r.2)

-- ---- the nest

-- where the joined graph is within the limits, it is accepted and has the nest's C and P
pub nest_weights : (row : List (List ℕ)) (nest : Nest) (graphs : Members Graph end_to_end) → IsNest row nest → Carries end_to_end graphs nest
    → WithinLimits (whole graphs) → HasWeights (whole graphs) (record { c = work_of nest; p = path_of nest })
nest_weights row nest graphs n c l =
    let w = whole_weighs c n.ruled n.members.low in
    record { accepted = accepted (whole graphs) w.faultless l; work = w.work; path = w.path }

-- and the reply for the row is the reply that the joined graph has
pub nest_measured : (row : List (List ℕ)) (nest : Nest) (graphs : Members Graph end_to_end) (r : Result Weights Refusal) → IsNestMeasure row r → IsNest row nest
    → Carries end_to_end graphs nest → WithinLimits (whole graphs)
    → IsMeasure (graph_rows (whole graphs).times (whole graphs).arrows) (whole graphs).times (whole graphs).arrows r
unfolding IsNestMeasure IsMeasure
nest_measured row nest graphs (Ok weights) (m, q, e, f) n c l =
    let w = nest_weights row nest graphs n c l in
    let same = one_nest row m nest q n in
    (w.accepted, e ∙ ap work_of same ∙ sym w.work, rw (f ∙ ap path_of same) w.path)
nest_measured row nest graphs (Err refusal) h n c l = not_refused row nest refusal n h
