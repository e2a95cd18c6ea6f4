-- Dummies of joins and nests: at a small input each statement rules the dummy's reply out. Assumes nothing.
use Rattle.std.proofs.Common.{◌≡◌, refl, ap, ◌∙◌, List, [], ◌∷◌, ℕ, zero, suc, ◌≤◌, arith, length, get_or}
use Rattle.terms.specs.Graphs.{IsSubtask, time_of}
use Rattle.terms.specs.Arrangements.{has_arrow, passing, lasts_of, firsts_of, for_each, sorted_by_from}
use Rattle.terms.specs.Joins.{Graph, graph_of, end_to_end, side_by_side, each_to_each, all_arrows, joined}
use Rattle.terms.specs.Nests.{none, graph, Nest, count, depth, work_of, path_of, written, Ruled, IsNest}
use Rattle.terms.specs.Refusals.{join_rows}
use Rattle.terms.specs.Replies.{IsJoined, IsJoin, IsNestMeasure}
use Rattle.terms.specs.declared.Refusal.{Refusal}
use Rattle.terms.specs.declared.Weights.{Weights}
use Rattle.terms.specs.declared.GraphSize.{GraphSize}
use Rattle.theory.specs.Joined.{IsAccepted}
use Rattle.theory.proofs.Answers.{not_both}
use Rattle.theory.proofs.Accepted.{accepted_graph}
use Rattle.theory.proofs.JoinedReplies.{accepted_joins}
use Rattle.theory.proofs.OneNest.{one_nest, not_refused}
use Rattle.theory.proofs.TwoSubtasks.{loose_sound}
use Rattle.std.specs.Prelude.{Ok, Err}

-- ---- joins: two graphs of one subtask of time 1

abbrev pub lone : Graph
lone = graph_of (1 ∷ []) []

lone_accepted : IsAccepted lone
unfolding time_of
lone_accepted = accepted_graph (1 ∷ []) [] (loose_sound (1 ∷ []) (record { low = omega arith; high = omega arith }) positive)
  where
    positive : (j : ℕ) → IsSubtask (1 ∷ []) j → 1 ≤ time_of (1 ∷ []) j
    positive zero s = absurd (omega (arith, s.low))
    positive (suc zero) s = omega arith
    positive (suc (suc j)) s = absurd (omega (arith, s.high))

-- end to end they have an arrow
one_arrow_lem : joined end_to_end lone lone ≡ graph_of (1 ∷ 1 ∷ []) ((1 ∷ 2 ∷ []) ∷ [])
unfolding sorted_by_from for_each all_arrows each_to_each lasts_of firsts_of passing has_arrow
one_arrow_lem = refl

-- refuses everything: there is room for two times and an arrow
pub refuses_join : (times₀ times : List ℕ) (arrows₀ arrows : List (List ℕ)) (r : Refusal) → 2 ≤ length times₀ → 1 ≤ length arrows₀
    → ¬ IsJoin end_to_end lone lone times₀ arrows₀ times arrows (Err r)
unfolding IsJoined
refuses_join times₀ times arrows₀ arrows r l m h =
    let a : length (joined end_to_end lone lone).arrows ≡ 1 = ap (λ (g : Graph). length g.arrows) one_arrow_lem in
    not_both (join_rows lone lone (joined end_to_end lone lone) (length times₀) (length arrows₀)) r
    (accepted_joins lone lone (joined end_to_end lone lone) (length times₀) (length arrows₀) lone_accepted lone_accepted
    (record { few = omega arith; few_arrows = omega (arith, a) }) l (omega (arith, a)))
    h.0

-- leaves the graphs apart: replies that there is no arrow
pub leaves_apart : (times₀ times : List ℕ) (arrows₀ arrows : List (List ℕ)) (subtasks : ℕ)
    → ¬ IsJoin end_to_end lone lone times₀ arrows₀ times arrows (Ok (record { subtasks = subtasks; arrows = 0 }))
unfolding IsJoined
leaves_apart times₀ times arrows₀ arrows subtasks h = omega (arith, h.2, ap (λ (g : Graph). length g.arrows) one_arrow_lem)

-- joins nothing: the rows stay as they were, with the times 7 and 7
pub joins_nothing : (arrows : List (List ℕ)) (counted : GraphSize)
    → ¬ IsJoin side_by_side lone lone (7 ∷ 7 ∷ []) arrows (7 ∷ 7 ∷ []) arrows (Ok counted)
unfolding IsJoined
joins_nothing arrows counted h = let z : ◌≡◌ {A = ℕ} 7 1 = ap (λ (l : List ℕ). get_or l 0 0) h.3 in omega arith

-- ---- nests: a sequence of one graph, C = 5 and P = 3

abbrev pub five : List (List ℕ)
five = (1 ∷ 1 ∷ 0 ∷ []) ∷ (0 ∷ 5 ∷ 3 ∷ []) ∷ []

abbrev five_nest : Nest
five_nest = graph (record { c = 5; p = 3 }) none

five_is : IsNest five five_nest
unfolding count depth written Ruled
five_is = record {
  fills = refl;
  short = omega arith;
  members = record { low = omega arith; high = omega arith };
  ruled = (record { path = record { low = omega arith; high = omega arith }; work = omega arith }, tt);
  shallow = omega arith;
}

-- refuses everything
pub refuses_nest : (r : Refusal) → ¬ IsNestMeasure five (Err r)
unfolding IsNestMeasure
refuses_nest r h = not_refused five five_nest r five_is h

-- makes up C and P
pub makes_up_nest : (weights : Weights) → IsNestMeasure five (Ok weights) → (weights.c ≡ 5) × (weights.p ≡ 3)
unfolding IsNestMeasure work_of path_of
makes_up_nest weights (n, q, e, f) = let same = one_nest five n five_nest q five_is in (e ∙ ap work_of same, f ∙ ap path_of same)
