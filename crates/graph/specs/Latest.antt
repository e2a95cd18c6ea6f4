-- The largest finish of the predecessors of a subtask.
use Rattle.std.specs.Prelude.{◌≡◌, ◌⊎◌, List, ℕ, ◌≤◌, ◌<◌, length, get_or}
use Rattle.terms.specs.Graphs.{from_of, to_of, Precedes}

-- r is the largest finish among the subtasks with an arrow into v at place c or later, and 0 where there is none
pub record Latest (arrows : List (List ℕ)) (finish : List ℕ) (v c r : ℕ) : Type 0 where
  pub most : (k : ℕ) → c ≤ k → k < length arrows → to_of arrows k ≡ v → get_or finish (from_of arrows k) 0 ≤ r
  pub reached : (r ≡ 0) ⊎ ((p : ℕ) × Precedes arrows p v × (r ≡ get_or finish p 0))
