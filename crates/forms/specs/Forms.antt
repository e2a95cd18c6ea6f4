-- Where a plan ends.
use Rattle.std.specs.Prelude.{List, ℕ, zero, suc, ◌+◌, ◌-◌, max, get_or}
use Rattle.terms.specs.Graphs.{time_of}
use Rattle.terms.specs.Plans.{end_of}
use Rattle.terms.specs.declared.Entry.{Entry}

-- no instant: no plan runs so long
abbrev pub never : ℕ
never = 4294967295

-- the largest end of the first k subtasks of a plan, 0 where there is none
unfoldable pub plan_end : List ℕ → List Entry → ℕ → ℕ
plan_end times plan zero = 0
plan_end times plan (suc k) = max (plan_end times plan k) (end_of times plan (suc k))

-- ---- by a row of starts

-- what a row holds for subtask j
unfoldable pub item_of : List ℕ → ℕ → ℕ
item_of row j = get_or row (j - 1) 0

-- where subtask j ends
unfoldable pub finish_of : List ℕ → List ℕ → ℕ → ℕ
finish_of times starts j = item_of starts j + time_of times j

-- the largest end of the first k subtasks, 0 where there is none
unfoldable pub last_end : List ℕ → List ℕ → ℕ → ℕ
last_end times starts zero = 0
last_end times starts (suc k) = max (last_end times starts k) (finish_of times starts (suc k))
