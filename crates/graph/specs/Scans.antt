-- What the scans over the arrows look for. What they answer is theory's `IsFirst`.
use Rattle.std.specs.Prelude.{◌≡◌, ◌≢◌, Bool, true, false, List, ℕ, ◌<◌, min, Option, Some, None}
use Rattle.terms.specs.Graphs.{Among, from_of, to_of}

-- the arrow at a place names a subtask outside 1..n
abbrev pub Outside : ℕ → List (List ℕ) → ℕ → Type 0
Outside n arrows a = ¬ (Among 1 n (from_of arrows a) × Among 1 n (to_of arrows a))

-- the arrow at a place goes from a subtask to itself
abbrev pub Loops : List (List ℕ) → ℕ → Type 0
Loops arrows a = from_of arrows a ≡ to_of arrows a

-- u and v are two different subtasks of 1..n
pub record TwoOf (n u v : ℕ) : Type 0 where
  pub from_in : Among 1 n u
  pub to_in : Among 1 n v
  pub apart : u ≢ v

-- each of the arrows below b goes from one of 1..n to another; or one does not
abbrev pub AllJoin : ℕ → List (List ℕ) → ℕ → Bool → Type 0
AllJoin n arrows b true = (a : ℕ) → a < b → TwoOf n (from_of arrows a) (to_of arrows a)
AllJoin n arrows b false = (a : ℕ) × (a < b) × ¬ TwoOf n (from_of arrows a) (to_of arrows a)

-- the earlier of a place and one that may have been found
abbrev pub earlier_of : Option ℕ → ℕ → ℕ
earlier_of None place = place
earlier_of (Some found) place = min found place
