-- What the acceptance of a plan hands out, fact by fact, as records that proofs read. Assumes nothing.
use Rattle.std.proofs.Common.{◌≡◌, ◌≢◌, List, ℕ, ◌≤◌, length}
use Rattle.terms.specs.Graphs.{Among, IsSubtask, Precedes}
use Rattle.terms.specs.Plans.{processor_of, start_of, end_of, RunsAt, IdleAt}
use Rattle.terms.specs.declared.Entry.{Entry}

-- none of 8 and 12 to 16 holds
pub record SoundPlan (times : List ℕ) (arrows : List (List ℕ)) (M : ℕ) (plan : List Entry) : Type 0 where
  pub processors : Among 1 16 M
  pub whole : length plan ≡ length times
  pub placed : (j : ℕ) → IsSubtask times j → Among 1 M (processor_of plan j)
  pub starts : (j : ℕ) → IsSubtask times j → start_of plan j ≤ 16776960
  pub ordered : (i j : ℕ) → Precedes arrows i j → end_of times plan i ≤ start_of plan j
  pub apart : (i j t : ℕ) → IsSubtask times i → IsSubtask times j → i ≢ j → processor_of plan i ≡ processor_of plan j → RunsAt times plan i t
      → ¬ RunsAt times plan j t

-- nor 17
pub record BusyPlan (times : List ℕ) (arrows : List (List ℕ)) (M : ℕ) (plan : List Entry) : Type 0 where
  pub sound : SoundPlan times arrows M plan
  pub busy : (t : ℕ) → ¬ IdleAt times arrows M plan t
