-- What the acceptance of a graph hands out, fact by fact. Private contracts and proofs read this record; promises cite the table itself.
use Rattle.std.specs.Prelude.{◌≡◌, ◌≢◌, List, ℕ, ◌≤◌, ◌<◌, length}
use Rattle.terms.specs.Graphs.{Among, IsSubtask, time_of, from_of, to_of, LeadsTo}

-- none of 1 to 7 holds
pub record SoundGraph (times : List ℕ) (arrows : List (List ℕ)) : Type 0 where
  pub count : Among 1 256 (length times)
  pub positive : (j : ℕ) → IsSubtask times j → 1 ≤ time_of times j
  pub few : length arrows ≤ 2048
  pub named : (a : ℕ) → a < length arrows → IsSubtask times (from_of arrows a) × IsSubtask times (to_of arrows a)
  pub apart : (a : ℕ) → a < length arrows → from_of arrows a ≢ to_of arrows a
  pub once : (a b : ℕ) → a < b → b < length arrows → ¬ ((from_of arrows a ≡ from_of arrows b) × (to_of arrows a ≡ to_of arrows b))
  pub acyclic : (j : ℕ) → ¬ LeadsTo arrows j j
