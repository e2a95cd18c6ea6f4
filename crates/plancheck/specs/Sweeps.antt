-- What one sweep over the subtasks in the order of their starts asks, and what it shows.
use Rattle.std.specs.Prelude.{◌≡◌, ◌⊎◌, List, ℕ, ◌≤◌, ◌<◌, length, get_or}
use Rattle.terms.specs.Graphs.{Among, IsSubtask, time_of}
use Rattle.terms.specs.Plans.{not_placed, processor_of, start_of, FreeAt}
use Rattle.terms.specs.declared.Entry.{Entry}
use Rattle.plancheck.specs.Known.{Timed}
use Rattle.plancheck.specs.Scans.{Clash}

-- what the sweep asks: every subtask takes time, on a processor of 1..M
pub record Sweepable (times : List ℕ) (M : ℕ) (plan : List Entry) (ready : List ℕ) : Type 0 where
  pub processors : M ≤ 16
  pub positive : (j : ℕ) → IsSubtask times j → 1 ≤ time_of times j
  pub placed : (j : ℕ) → IsSubtask times j → Among 1 M (processor_of plan j)
  pub timed : Timed times plan
  pub long_ready : length ready ≡ 257

-- r is s where some processor of 1..M is free before s, by the ends of what ran last on each; else it is the old slack
abbrev pub SlackAt : List ℕ → ℕ → ℕ → ℕ → ℕ → Type 0
SlackAt until M s slack r = (r ≡ s) ⊎ ((r ≡ slack) × ((p : ℕ) → Among 1 M p → s ≤ get_or until p 0))

-- no two subtasks clash, and no processor is free while a subtask waits for nothing else
pub record ApartAndBusy (times : List ℕ) (M : ℕ) (plan : List Entry) (ready : List ℕ) : Type 0 where
  pub apart : (i j : ℕ) → IsSubtask times i → IsSubtask times j → ¬ Clash times plan i j
  pub busy : (j t p : ℕ) → IsSubtask times j → get_or ready j 0 ≤ t → t < start_of plan j → Among 1 M p → ¬ FreeAt times plan p t

-- starts of which 32 bits hold 256 times as much
pub record Low (plan : List Entry) : Type 0 where
  pub few : length plan ≤ 256
  pub low : (i : ℕ) → i < length plan → (get_or plan i not_placed).start ≤ 16776960
