-- docs/PLANNER.md, "Numbers": subtasks, their times, arrows. Subtasks are numbered from 1; a graph's counts are the lengths of its two rows.
use Rattle.std.specs.Prelude.{◌≡◌, List, [], ℕ, ◌-◌, ◌≤◌, ◌<◌, length, get_or}

-- n is one of a..b
pub record Among (a b n : ℕ) : Type 0 where
  pub low : a ≤ n
  pub high : n ≤ b

-- the subtasks are 1..n, n the length of the times row
abbrev pub IsSubtask : List ℕ → ℕ → Type 0
IsSubtask times j = Among 1 (length times) j

-- the time of subtask j
unfoldable pub time_of : List ℕ → ℕ → ℕ
time_of times j = get_or times (j - 1) 0

-- times are lent in 16 bits
abbrev pub In16Bits : List ℕ → Type 0
In16Bits times = (j : ℕ) → IsSubtask times j → time_of times j ≤ 65535

-- an arrow is "from, to"; these are the two ends of the arrow at a place of the row
unfoldable pub from_of : List (List ℕ) → ℕ → ℕ
from_of arrows place = get_or (get_or arrows place []) 0 0

unfoldable pub to_of : List (List ℕ) → ℕ → ℕ
to_of arrows place = get_or (get_or arrows place []) 1 0

-- there is an arrow from i to j: i is a predecessor of j
pub record Precedes (arrows : List (List ℕ)) (i j : ℕ) : Type 0 where
  pub place : ℕ
  pub inside : place < length arrows
  pub begins : from_of arrows place ≡ i
  pub arrives : to_of arrows place ≡ j

-- i leads to j by one arrow or more; where j leads to itself the arrows close a cycle
pub data LeadsTo (arrows : List (List ℕ)) (i : ℕ) : ℕ → Type 0 where
  step : {j : ℕ} → Precedes arrows i j → LeadsTo arrows i j
  more : {k j : ℕ} → LeadsTo arrows i k → Precedes arrows k j → LeadsTo arrows i j
