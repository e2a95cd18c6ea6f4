-- The arrows as chains, one for each subtask: an arrow is named by its position, counted from 1, and 0 is a chain's end.
use Rattle.std.specs.Prelude.{◌≡◌, List, ℕ, ◌-◌, ◌≤◌, ◌<◌, length, get_or}
use Rattle.terms.specs.Graphs.{Among, from_of, to_of}

-- what the tables need: not too many subtasks or arrows, and each arrow names two of 1..n
pub record Tidy (n : ℕ) (arrows : List (List ℕ)) : Type 0 where
  pub subtasks : n ≤ 256
  pub few : length arrows ≤ 2048
  pub from_in : (a : ℕ) → a < length arrows → Among 1 n (from_of arrows a)
  pub to_in : (a : ℕ) → a < length arrows → Among 1 n (to_of arrows a)

-- of the arrow at a place one end is in question: where it comes from, or where it goes to. x is the position of the last arrow below b
-- that has v at this end, and 0 where there is none
pub record Last (end : ℕ → ℕ) (v b x : ℕ) : Type 0 where
  pub within : x ≤ b
  pub gap : (k : ℕ) → x ≤ k → k < b → ¬ (end k ≡ v)
  pub here : 0 < x → end (x - 1) ≡ v

-- the chains of the arrows below b, one for each subtask at this end
pub record Chains (end : ℕ → ℕ) (first next : List ℕ) (b : ℕ) : Type 0 where
  pub long_first : length first ≡ 257
  pub long_next : length next ≡ 2048
  pub start : (v : ℕ) → v < 257 → Last end v b (get_or first v 0)
  pub step : (k : ℕ) → k < b → Last end (end k) k (get_or next k 0)
