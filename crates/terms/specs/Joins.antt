-- docs/PLANNER.md, "Joins": two graphs joined, end to end or side by side. No limit stands here.
use Rattle.std.specs.Prelude.{List, [], ◌∷◌, ◌++◌, map, ℕ, ◌+◌, ◌≤◌, length, get_or}
use Rattle.terms.specs.Arrangements.{lasts_of, firsts_of, sorted_by_from}

-- a graph: the times of its subtasks, and its arrows
pub record Graph : Type 0 where
  pub times : List ℕ
  pub arrows : List (List ℕ)

abbrev pub graph_of : List ℕ → List (List ℕ) → Graph
graph_of times arrows = record { times = times; arrows = arrows }

-- how many subtasks it has
abbrev pub size : Graph → ℕ
size g = length g.times

pub data Way : Type 0 where
  end_to_end side_by_side : Way

-- the second graph's numbers follow the first's: one of its arrows, with both numbers moved up
abbrev pub moved : ℕ → List ℕ → List ℕ
moved k arrow = (k + get_or arrow 0 0) ∷ (k + get_or arrow 1 0) ∷ []

-- the subtasks of the second graph to which arrows are added: end to end those without predecessors, side by side none
abbrev pub entered : Way → Graph → List ℕ
entered end_to_end b = firsts_of (size b) b.arrows
entered side_by_side b = []

-- an arrow from each of these to each of those
unfoldable pub each_to_each : List ℕ → List ℕ → List (List ℕ)
each_to_each [] ys = []
each_to_each (x ∷ xs) ys = map (λ y. x ∷ y ∷ []) ys ++ each_to_each xs ys

-- all arrows: those of the first graph, those of the second, and from each subtask of the first without successors one to each of some of the second
unfoldable pub all_arrows : List ℕ → Graph → Graph → List (List ℕ)
all_arrows targets a b =
    a.arrows ++ (map (moved (size a)) b.arrows ++ each_to_each (lasts_of (size a) a.arrows) (map (λ j. size a + j) targets))

-- the first's times and then the second's; the arrows sorted by "from" and then by "to"
abbrev pub joined_to : List ℕ → Graph → Graph → Graph
joined_to targets a b = graph_of (a.times ++ b.times) (sorted_by_from (size a + size b) (all_arrows targets a b))

-- the joined graph
abbrev pub joined : Way → Graph → Graph → Graph
joined way a b = joined_to (entered way b) a b

-- at most 256 subtasks and 2,048 arrows
pub record WithinLimits (g : Graph) : Type 0 where
  pub few : size g ≤ 256
  pub few_arrows : length g.arrows ≤ 2048
