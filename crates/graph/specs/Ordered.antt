-- The order "predecessors first": the first n entries of a row.
use Rattle.std.specs.Prelude.{◌≡◌, Result, Ok, Err, List, ℕ, ◌<◌, length, get_or}
use Rattle.terms.specs.declared.Subtask.{Subtask}
use Rattle.terms.specs.Graphs.{Among, from_of, to_of, LeadsTo}

-- v stands in the row at a place below b
pub record StandsBelow (row : List ℕ) (b v : ℕ) : Type 0 where
  pub place : ℕ
  pub below : place < b
  pub is : get_or row place 0 ≡ v

pub record Ordered (n : ℕ) (arrows : List (List ℕ)) (row : List ℕ) : Type 0 where
  pub long : length row ≡ 256
  pub inside : (i : ℕ) → i < n → Among 1 n (get_or row i 0)
  pub each : (v : ℕ) → Among 1 n v → StandsBelow row n v
  pub once : (i j : ℕ) → i < j → j < n → ¬ (get_or row i 0 ≡ get_or row j 0)
  -- an arrow into entry j comes from an entry before it
  pub first : (k : ℕ) → k < length arrows → (j : ℕ) → j < n → get_or row j 0 ≡ to_of arrows k → StandsBelow row j (from_of arrows k)

-- the arrows close a cycle, and no subtask below this one is on one
pub record Closes (n : ℕ) (arrows : List (List ℕ)) (root : ℕ) : Type 0 where
  pub is : Among 1 n root
  pub cycle : (j : ℕ) × LeadsTo arrows j j
  pub below : (j : ℕ) → j < root → ¬ LeadsTo arrows j j

-- the row is an order; or the arrows close a cycle
abbrev pub Orders : ℕ → List (List ℕ) → List ℕ → Result (Unit {0}) Subtask → Type 0
Orders n arrows row (Ok _) = Ordered n arrows row
Orders n arrows row (Err root) = Closes n arrows root.0
