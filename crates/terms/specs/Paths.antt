-- docs/PLANNER.md, "Terms": total work C and longest path P.
use Rattle.std.specs.Prelude.{◌≡◌, List, ℕ, suc, ◌+◌, ◌≤◌, length}
use Rattle.terms.specs.Sums.{sum}
use Rattle.terms.specs.Graphs.{IsSubtask, time_of, Precedes}

-- C: the sum of all times
unfoldable pub total_work : List ℕ → ℕ
total_work times = sum (length times) (λ i. time_of times (suc i))

-- a path of arrows that ends in j: one subtask alone is a path, and so is a path to i with an arrow from i to j
pub data PathTo (times : List ℕ) (arrows : List (List ℕ)) : ℕ → Type 0 where
  alone : (j : ℕ) → IsSubtask times j → PathTo times arrows j
  along : {i : ℕ} → PathTo times arrows i → (j : ℕ) → Precedes arrows i j → PathTo times arrows j

-- the sum of times along a path
unfoldable pub weight : {times : List ℕ} {arrows : List (List ℕ)} {j : ℕ} → PathTo times arrows j → ℕ
weight {times} (alone j s) = time_of times j
weight {times} (along path j w) = weight path + time_of times j

-- P: the largest sum of times along any path; some path has it, and none has more
pub record IsLongest (times : List ℕ) (arrows : List (List ℕ)) (P : ℕ) : Type 0 where
  pub reached : (j : ℕ) × (path : PathTo times arrows j) × (weight path ≡ P)
  pub most : (j : ℕ) (path : PathTo times arrows j) → weight path ≤ P
