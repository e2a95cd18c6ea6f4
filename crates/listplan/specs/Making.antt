-- A list plan in the making, as its tables have it: `until` and `who` hold the end and the number of the subtask on each processor, `never` and
-- 0 where nobody is on it (place 0 is not used); `left` how many arrows hold each subtask back; `ready` a mark for each place of the order whose
-- subtask can go.
use Rattle.std.specs.Prelude.{◌≡◌, ◌≢◌, ◌⊎◌, List, Bool, true, false, Option, Some, None, ℕ, ◌+◌, ◌-◌, ◌≤◌, ◌<◌, min, length, get_or, set}
use Rattle.terms.specs.Graphs.{Among, IsSubtask, from_of, to_of}
use Rattle.terms.specs.Paths.{total_work}
use Rattle.terms.specs.Plans.{processor_of, start_of, end_of}
use Rattle.terms.specs.ListRule.{IsOrder, ByRule}
use Rattle.terms.specs.declared.Entry.{Entry}
use Rattle.terms.specs.declared.Processor.{Processor}
use Rattle.theory.specs.Sound.{SoundGraph}
use Rattle.theory.specs.First.{NoneBelow, FirstBelow}
use Rattle.theory.specs.Counting.{Count}
use Rattle.forms.specs.Forms.{never}
use Rattle.graph.specs.Chains.{Chains}
use Rattle.listplan.specs.Tables.{Ranks}
use Rattle.listplan.specs.declared.starts.Start.{Start}

-- what stays the same
pub record IsJob (times : List ℕ) (arrows : List (List ℕ)) (order : List ℕ) (M : ℕ) (first next rank : List ℕ) : Type 0 where
  pub graph : SoundGraph times arrows
  pub within : Among 1 16 M
  pub is_order : IsOrder times order
  pub work : total_work times ≤ 16776960
  pub chains : Chains (from_of arrows) first next (length arrows)
  pub ranks : Ranks order rank (length order)

-- subtask j has not gone, or is still on its processor
pub data Unended (plan : List Entry) (who : List ℕ) (j : ℕ) : Type 0 where
  waits : processor_of plan j ≡ 0 → Unended plan who j
  runs : get_or who (processor_of plan j) 0 ≡ j → Unended plan who j

-- The arrow at place a holds its `to` back: its `from` is unended, or has just ended and its arrows are being counted off; c is the position,
-- counted from 1, of the next of those, and 0 where there are none left.
pub data Holding (arrows : List (List ℕ)) (plan : List Entry) (who : List ℕ) (c a : ℕ) : Type 0 where
  unended : Unended plan who (from_of arrows a) → Holding arrows plan who c a
  uncounted : a < c → from_of arrows a ≡ from_of arrows (c - 1) → Holding arrows plan who c a

-- subtask s has not gone and nothing holds it back
pub record Open (arrows : List (List ℕ)) (plan : List Entry) (who : List ℕ) (c s : ℕ) : Type 0 where
  pub unplaced : processor_of plan s ≡ 0
  pub served : (a : ℕ) → a < length arrows → to_of arrows a ≡ s → ¬ Holding arrows plan who c a

-- subtask j is on processor p, to its end
pub record IsOn (times : List ℕ) (plan : List Entry) (until : List ℕ) (p j : ℕ) : Type 0 where
  pub is_subtask : IsSubtask times j
  pub on : processor_of plan j ≡ p
  pub ends : end_of times plan j ≡ get_or until p 0

-- who is on the processors, and that all others that have gone have ended
pub record Holders (times : List ℕ) (M t : ℕ) (plan : List Entry) (until who : List ℕ) : Type 0 where
  pub long_until : length until ≡ 17
  pub long_who : length who ≡ 17
  pub nobody : (p : ℕ) → Among 1 M p → get_or who p 0 ≡ 0 → get_or until p 0 ≡ never
  pub holder : (p : ℕ) → Among 1 M p → 1 ≤ get_or who p 0 → IsOn times plan until p (get_or who p 0)
  pub ended : (j : ℕ) → IsSubtask times j → ¬ Unended plan who j → end_of times plan j ≤ t

-- how many arrows hold each subtask back
pub record Lefts (times : List ℕ) (arrows : List (List ℕ)) (c : ℕ) (plan : List Entry) (who left : List ℕ) : Type 0 where
  pub long : length left ≡ 257
  pub count : (s : ℕ) → IsSubtask times s → Count (λ a. (to_of arrows a ≡ s) × Holding arrows plan who c a) (length arrows) (get_or left s 0)

-- the places of the order whose subtask is open
pub record Marks (arrows : List (List ℕ)) (order : List ℕ) (c : ℕ) (plan : List Entry) (who : List ℕ) (ready : List Bool) : Type 0 where
  pub long : length ready ≡ 256
  pub opens : (x : ℕ) → x < length order → get_or ready x false ≡ true → Open arrows plan who c (get_or order x 0)
  pub marked : (x : ℕ) → x < length order → Open arrows plan who c (get_or order x 0) → get_or ready x false ≡ true

-- the arrows that are being counted off come from a subtask that has ended
pub record Cursor (arrows : List (List ℕ)) (c : ℕ) (plan : List Entry) (who : List ℕ) : Type 0 where
  pub within : c ≤ length arrows
  pub ended : 0 < c → ¬ Unended plan who (from_of arrows (c - 1))

-- what the rule has made with the clock at t, and the tables say so
pub record Making (times : List ℕ) (arrows : List (List ℕ)) (order : List ℕ) (M t c : ℕ) (left : List ℕ) (ready : List Bool) (until who : List ℕ) (plan : List Entry) : Type 0 where
  pub whole : length plan ≡ length times
  pub early : t ≤ total_work times
  pub begun : (j : ℕ) → IsSubtask times j → start_of plan j ≤ t
  pub made : ByRule times arrows order M t plan
  pub holders : Holders times M t plan until who
  pub lefts : Lefts times arrows c plan who left
  pub marks : Marks arrows order c plan who ready
  pub cursor : Cursor arrows c plan who
  pub blocked : (a : ℕ) → a < length arrows → Holding arrows plan who c a → processor_of plan (to_of arrows a) ≡ 0

-- ---- what the scans look for

-- place x of the order is marked
abbrev pub IsMarked : List Bool → ℕ → Type 0
IsMarked ready x = get_or ready x false ≡ true

-- nobody is on processor p
pub record IsFree (who : List ℕ) (p : ℕ) : Type 0 where
  pub one : 1 ≤ p
  pub nobody : get_or who p 0 ≡ 0

-- processor p has an end by t
pub record IsDue (until : List ℕ) (t p : ℕ) : Type 0 where
  pub one : 1 ≤ p
  pub by : get_or until p 0 ≤ t

-- the first of the processors 1..M that is so, if there is one
unfoldable pub FirstOf : ℕ → (ℕ → Type 0) → Option Processor → Type 0
FirstOf M IsSo (Some p) = Among 1 M p.0 × FirstBelow IsSo (M + 1) p.0
FirstOf M IsSo None = NoneBelow IsSo (M + 1) (M + 1)

-- the first place of the order that is marked, if there is one
unfoldable pub FirstMark : List Bool → ℕ → Option ℕ → Type 0
FirstMark ready n (Some x) = (x < n) × FirstBelow (IsMarked ready) n x
FirstMark ready n None = NoneBelow (IsMarked ready) n n

-- the first place that is marked with the first processor that is free, if there are both
unfoldable pub NextStart : List Bool → ℕ → List ℕ → ℕ → Option Start → Type 0
NextStart ready n who M (Some start) = FirstMark ready n (Some start.place) × FirstOf M (IsFree who) (Some start.processor)
NextStart ready n who M None = FirstMark ready n None ⊎ FirstOf M (IsFree who) None

-- processor p is the first with the soonest end
pub record Soonest (until : List ℕ) (M p : ℕ) : Type 0 where
  pub within : Among 1 M p
  pub least : (q : ℕ) → Among 1 M q → get_or until p 0 ≤ get_or until q 0
  pub first : (q : ℕ) → Among 1 M q → q < p → get_or until p 0 < get_or until q 0

-- The arrow at place a is counted off: one fewer holds its `to` back, and where it was the last one, the place of `to` in the order is marked.
-- low' is the smaller of low and the place that was marked.
pub record CountedOff (arrows : List (List ℕ)) (rank left : List ℕ) (ready : List Bool) (left' : List ℕ) (ready' : List Bool) (a low low' : ℕ) : Type 0 where
  pub fewer : left' ≡ set left (to_of arrows a) (get_or left (to_of arrows a) 0 - 1)
  pub last : get_or left (to_of arrows a) 0 - 1 ≡ 0
      → (ready' ≡ set ready (get_or rank (to_of arrows a) 0) true) × (low' ≡ min low (get_or rank (to_of arrows a) 0))
  pub more : get_or left (to_of arrows a) 0 - 1 ≢ 0 → (ready' ≡ ready) × (low' ≡ low)
