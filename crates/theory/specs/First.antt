-- The first place at which something is so.
use Rattle.std.specs.Prelude.{◌≡◌, ℕ, ◌+◌, ◌-◌, ◌≤◌, ◌<◌, Option, Some, None}
use Rattle.terms.specs.Graphs.{Among}
use Rattle.terms.specs.declared.Subtask.{Subtask}

-- i is the first place below n that is so
pub record FirstPlace (n : ℕ) (IsSo : ℕ → Type 0) (i : ℕ) : Type 0 where
  pub inside : i < n
  pub is_so : IsSo i
  pub least : (k : ℕ) → k < i → ¬ IsSo k

-- this is the first place below n that is so, and nothing where there is none
unfoldable pub IsFirst : ℕ → (ℕ → Type 0) → Option ℕ → Type 0
IsFirst n IsSo (Some i) = FirstPlace n IsSo i
IsFirst n IsSo None = (k : ℕ) → k < n → ¬ IsSo k

-- this is the first of the subtasks 1..n that is so, and nothing where there is none
unfoldable pub IsFirstSubtask : ℕ → (ℕ → Type 0) → Option Subtask → Type 0
IsFirstSubtask n IsSo (Some j) = Among 1 n j.0 × IsSo j.0 × ((k : ℕ) → 1 ≤ k → k < j.0 → ¬ IsSo k)
IsFirstSubtask n IsSo None = (k : ℕ) → Among 1 n k → ¬ IsSo k

-- r is the position, counted from 1, of the first place below n that is so, and 0 where there is none
pub record First (n : ℕ) (IsSo : ℕ → Type 0) (r : ℕ) : Type 0 where
  pub within : r ≤ n
  pub least : (k : ℕ) → k < r - 1 → ¬ IsSo k
  pub holds : 0 < r → IsSo (r - 1)
  pub none : r ≡ 0 → (k : ℕ) → k < n → ¬ IsSo k

-- r is the first of the subtasks 1..n that is so, and 0 where there is none
abbrev pub FirstSubtask : ℕ → (ℕ → Type 0) → ℕ → Type 0
FirstSubtask n IsSo r = First n (λ i. IsSo (i + 1)) r

-- no place below x, which is at most n, is so
pub record NoneBelow (IsSo : ℕ → Type 0) (n x : ℕ) : Type 0 where
  pub within : x ≤ n
  pub none : (y : ℕ) → y < x → ¬ IsSo y

-- x is the first place that is so, and n where none below n is
pub record FirstBelow (IsSo : ℕ → Type 0) (n x : ℕ) : Type 0 where
  pub before : NoneBelow IsSo n x
  pub here : x < n → IsSo x
