-- Which subtasks take time, as a scan asks it.
use Rattle.std.specs.Prelude.{◌≢◌, List, ℕ, ◌<◌, get_or}

-- none of the first b times is 0
abbrev pub AllTakeTime : ℕ → List ℕ → Type 0
AllTakeTime b times = (i : ℕ) → i < b → get_or times i 0 ≢ 0
