-- What the scans over the subtasks answer.
use Rattle.std.specs.Prelude.{◌≡◌, List, ℕ, ◌-◌, ◌≤◌, ◌<◌, ◌&&◌, Bool, nat_lt, nat_le, Option, Some, None, length, get_or, count_by}
use Rattle.std.specs.List.{zip}
use Rattle.terms.specs.Graphs.{Among, IsSubtask}
use Rattle.terms.specs.Plans.{processor_of, start_of, end_of}
use Rattle.terms.specs.declared.Entry.{Entry}
use Rattle.theory.specs.First.{IsFirstSubtask}
use Rattle.plancheck.specs.declared.Pair.{Pair}

-- j stands after i, on the same processor, and each starts before the other ends
pub record Clash (times : List ℕ) (plan : List Entry) (i j : ℕ) : Type 0 where
  pub after : i < j
  pub same : processor_of plan i ≡ processor_of plan j
  pub left : start_of plan i < end_of times plan j
  pub right : start_of plan j < end_of times plan i

pub record Clashes (times : List ℕ) (plan : List Entry) (i : ℕ) : Type 0 where
  pub other : ℕ
  pub is_subtask : IsSubtask times other
  pub clash : Clash times plan i other

-- the two subtasks with the smallest lower and then the smallest higher number that clash, if any do
unfoldable pub FirstClash : List ℕ → List Entry → Option Pair → Type 0
FirstClash times plan (Some pair) =
    IsFirstSubtask (length times) (Clashes times plan) (Some pair.lower) × IsFirstSubtask (length times) (Clash times plan pair.lower.0) (Some pair.higher)
FirstClash times plan None = IsFirstSubtask (length times) (Clashes times plan) None

-- whether a subtask of this time and entry runs at t
abbrev pub runs_in : ℕ → ℕ → Entry → Bool
runs_in t time entry = nat_le entry.start t && nat_lt (t - entry.start) time

-- how many subtasks run at t
abbrev pub running_among : ℕ → List ℕ → List Entry → ℕ
running_among t times plan = count_by (λ p. runs_in t p.0 p.1) (zip times plan)

-- at t fewer than M run, and j could start and starts later
pub record Idles (times : List ℕ) (plan : List Entry) (ready : List ℕ) (M t j : ℕ) : Type 0 where
  pub room : running_among t times plan < M
  pub due : get_or ready j 0 ≤ t
  pub later : t < start_of plan j

pub record SomeIdles (times : List ℕ) (plan : List Entry) (ready : List ℕ) (M t : ℕ) : Type 0 where
  pub subtask : ℕ
  pub is_subtask : IsSubtask times subtask
  pub idles : Idles times plan ready M t subtask

-- the earliest of 0 and the ends of the first k subtasks at which some subtask idles, if there is one
unfoldable pub Earliest : List ℕ → List Entry → List ℕ → ℕ → ℕ → Option ℕ → Type 0
Earliest times plan ready M k (Some r) =
    SomeIdles times plan ready M r × (SomeIdles times plan ready M 0 → r ≡ 0)
    × ((i : ℕ) → Among 1 k i → SomeIdles times plan ready M (end_of times plan i) → r ≤ end_of times plan i)
Earliest times plan ready M k None =
    (¬ SomeIdles times plan ready M 0) × ((i : ℕ) → Among 1 k i → ¬ SomeIdles times plan ready M (end_of times plan i))
