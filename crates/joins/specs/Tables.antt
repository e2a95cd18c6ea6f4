-- The table of a join in two pieces: what is asked of the two graphs, and what is asked of the graph that they make.
use Rattle.std.specs.Prelude.{◌≡◌, ◌⊎◌, List, [], ◌∷◌, ◌++◌, ℕ, ◌+◌, ◌≤◌, ◌<◌, length}
use Rattle.terms.specs.Rows.{Row, row}
use Rattle.terms.specs.Refusals.{graph_rows}
use Rattle.terms.specs.Joins.{Graph, Way, entered}
use Rattle.theory.specs.Joined.{IsAccepted}

-- 1 to 7 of the first, 1 to 7 of the second, 30
unfoldable pub both_rows : Graph → Graph → List Row
both_rows a b = graph_rows a.times a.arrows ++ (graph_rows b.times b.arrows ++ row 30 (256 < length (a.times ++ b.times)) ∷ [])

-- 31 and 11, of so many subtasks and arrows, over lent rows of so many times and arrows
unfoldable pub made_rows : ℕ → ℕ → ℕ → ℕ → List Row
made_rows n many times arrows = row 31 (2048 < many) ∷ row 11 ((times < n) ⊎ (arrows < many)) ∷ []

-- both are accepted, together they have at most 256 subtasks, and these are the subtasks of the second to which arrows are added
pub record Joinable (a b : Graph) (targets : List ℕ) : Type 0 where
  pub first : IsAccepted a
  pub second : IsAccepted b
  pub few : length a.times + length b.times ≤ 256
  pub way : Way
  pub entered_by : targets ≡ entered way b
