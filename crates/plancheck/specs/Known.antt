-- What is known of a plan while 13 to 17 are asked of it one after the other.
use Rattle.std.specs.Prelude.{◌≡◌, List, ℕ, ◌≤◌, ◌<◌, length, get_or}
use Rattle.terms.specs.Graphs.{Among, IsSubtask, from_of, to_of}
use Rattle.terms.specs.Plans.{start_of, end_of}
use Rattle.terms.specs.declared.Entry.{Entry}
use Rattle.theory.specs.Sound.{SoundGraph}

-- none of 1 to 8 and 12 holds
pub record Given (times : List ℕ) (arrows : List (List ℕ)) (M : ℕ) (plan : List Entry) : Type 0 where
  pub graph : SoundGraph times arrows
  pub processors : Among 1 16 M
  pub whole : length plan ≡ length times

-- 14 does not hold: each subtask has an end, in 32 bits
pub record Timed (times : List ℕ) (plan : List Entry) : Type 0 where
  pub few : length times ≤ 256
  pub whole : length plan ≡ length times
  pub low : (j : ℕ) → IsSubtask times j → start_of plan j ≤ 16776960

-- x is the latest end of a predecessor of j by the first k arrows, 0 where there is none
pub record LatestEnd (times : List ℕ) (arrows : List (List ℕ)) (plan : List Entry) (k j x : ℕ) : Type 0 where
  pub most : (a : ℕ) → a < k → to_of arrows a ≡ j → end_of times plan (from_of arrows a) ≤ x
  pub reached : 0 < x → (a : ℕ) × (a < k) × (to_of arrows a ≡ j) × (end_of times plan (from_of arrows a) ≡ x)

-- a row that holds it for each subtask
pub record LatestEnds (times : List ℕ) (arrows : List (List ℕ)) (plan : List Entry) (k : ℕ) (ready : List ℕ) : Type 0 where
  pub long : length ready ≡ 257
  pub each : (j : ℕ) → j < 257 → LatestEnd times arrows plan k j (get_or ready j 0)
