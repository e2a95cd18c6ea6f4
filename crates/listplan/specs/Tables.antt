-- The tables that are made once for a list plan, beside the chains: how many arrows go to each subtask, and where each stands in the order.
use Rattle.std.specs.Prelude.{◌≡◌, ◌≢◌, List, Bool, true, false, ℕ, ◌/◌, ◌≤◌, ◌<◌, length, get_or}
use Rattle.terms.specs.Graphs.{from_of, to_of}
use Rattle.theory.specs.Counting.{Count}

-- what the tables have room for
pub record Roomy (arrows : List (List ℕ)) : Type 0 where
  pub few : length arrows ≤ 2048
  pub from_small : (a : ℕ) → a < length arrows → from_of arrows a < 257
  pub to_small : (a : ℕ) → a < length arrows → to_of arrows a < 257

-- how many of the arrows below b go to each subtask
pub record ArrowsTo (arrows : List (List ℕ)) (left : List ℕ) (b : ℕ) : Type 0 where
  pub long : length left ≡ 257
  pub count : (s : ℕ) → s < 257 → Count (λ a. to_of arrows a ≡ s) b (get_or left s 0)

-- an order of subtasks, for which the tables have room
pub record Distinct (order : List ℕ) : Type 0 where
  pub few : length order ≤ 256
  pub small : (x : ℕ) → x < length order → get_or order x 0 < 257
  pub once : (x y : ℕ) → x < y → y < length order → get_or order x 0 ≢ get_or order y 0

-- where each of the first b of the order stands
pub record Ranks (order rank : List ℕ) (b : ℕ) : Type 0 where
  pub long : length rank ≡ 257
  pub stands : (x : ℕ) → x < b → get_or rank (get_or order x 0) 0 ≡ x

-- a group of sixteen places that is not marked has no place that is
pub record Grouped (places groups : List Bool) : Type 0 where
  pub long : length groups ≡ 16
  pub none : (y : ℕ) → y < 256 → get_or groups (y / 16) false ≡ false → get_or places y false ≢ true

-- a mark says that no arrow goes there
pub record Mark (arrows : ℕ) (mark : Bool) : Type 0 where
  pub none : mark ≡ true → arrows ≡ 0
  pub marked : arrows ≡ 0 → mark ≡ true

-- of the first b of the order, those are marked that no arrow goes to
pub record Sources (order left : List ℕ) (ready : List Bool) (b : ℕ) : Type 0 where
  pub long : length ready ≡ 256
  pub marks : (x : ℕ) → x < b → Mark (get_or left (get_or order x 0) 0) (get_or ready x false)
