-- docs/PLANNER.md, "Terms": plans. A plan is a row of entries, one for each subtask, holding its processor and start.
use Rattle.std.specs.Prelude.{◌≡◌, ◌⊎◌, List, ℕ, ◌+◌, ◌-◌, ◌≤◌, ◌<◌, get_or}
use Rattle.terms.specs.Graphs.{Among, IsSubtask, time_of, Precedes}
use Rattle.terms.specs.declared.Entry.{Entry}

-- an entry's processor and start, by their numbers
abbrev pub at : ℕ → ℕ → Entry
at p t = record { processor = record { 0 = p }; start = t }

-- in a plan that is being made, processor 0 stands for "not placed"
abbrev pub not_placed : Entry
not_placed = at 0 0

unfoldable pub processor_of : List Entry → ℕ → ℕ
processor_of plan j = (get_or plan (j - 1) not_placed).processor.0

unfoldable pub start_of : List Entry → ℕ → ℕ
start_of plan j = (get_or plan (j - 1) not_placed).start

-- a subtask ends at start + time
unfoldable pub end_of : List ℕ → List Entry → ℕ → ℕ
end_of times plan j = start_of plan j + time_of times j

abbrev pub Placed : List Entry → ℕ → Type 0
Placed plan j = 1 ≤ processor_of plan j

-- the plan ends at the largest end of a subtask
pub record EndsAt (times : List ℕ) (plan : List Entry) (E : ℕ) : Type 0 where
  pub reached : (j : ℕ) × IsSubtask times j × (end_of times plan j ≡ E)
  pub most : (j : ℕ) → IsSubtask times j → end_of times plan j ≤ E

-- subtask j runs at t: it has start ≤ t < end
pub record RunsAt (times : List ℕ) (plan : List Entry) (j t : ℕ) : Type 0 where
  pub placed : Placed plan j
  pub begun : start_of plan j ≤ t
  pub unended : t < end_of times plan j

-- ready at t: every predecessor ends at t or before, and the subtask starts later than t or has not been placed
pub record ReadyAt (times : List ℕ) (arrows : List (List ℕ)) (plan : List Entry) (j t : ℕ) : Type 0 where
  pub served : (i : ℕ) → Precedes arrows i j → Placed plan i × (end_of times plan i ≤ t)
  pub waiting : (t < start_of plan j) ⊎ (¬ Placed plan j)

-- free at t: no subtask on that processor has start ≤ t < end
abbrev pub FreeAt : List ℕ → List Entry → ℕ → ℕ → Type 0
FreeAt times plan p t = (j : ℕ) → IsSubtask times j → processor_of plan j ≡ p → ¬ RunsAt times plan j t

-- at t a subtask is ready and some processor of 1..M is free
pub record IdleAt (times : List ℕ) (arrows : List (List ℕ)) (M : ℕ) (plan : List Entry) (t : ℕ) : Type 0 where
  pub subtask : ℕ
  pub is_subtask : IsSubtask times subtask
  pub ready : ReadyAt times arrows plan subtask t
  pub processor : ℕ
  pub in_range : Among 1 M processor
  pub free : FreeAt times plan processor t
