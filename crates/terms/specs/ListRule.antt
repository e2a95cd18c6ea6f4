-- docs/PLANNER.md, "List rule". Given an order of all subtasks.
use Rattle.std.specs.Prelude.{◌≡◌, ◌≢◌, List, ℕ, suc, ◌-◌, ◌<◌, length, get_or, set, replicate}
use Rattle.terms.specs.Graphs.{Among, IsSubtask}
use Rattle.terms.specs.Plans.{at, not_placed, Placed, ReadyAt, FreeAt, IdleAt}
use Rattle.terms.specs.declared.Entry.{Entry}

-- exactly n entries holding each of 1..n once
pub record IsOrder (times order : List ℕ) : Type 0 where
  pub whole : length order ≡ length times
  pub each : (x : ℕ) → x < length order → IsSubtask times (get_or order x 0)
  pub once : (x y : ℕ) → x < y → y < length order → get_or order x 0 ≢ get_or order y 0

-- at t the ready subtask earliest in the order, j, goes to the free processor with the lowest number, p
pub record Goes (times : List ℕ) (arrows : List (List ℕ)) (order : List ℕ) (M : ℕ) (plan : List Entry) (t j p : ℕ) : Type 0 where
  pub place : ℕ
  pub inside : place < length order
  pub stands : get_or order place 0 ≡ j
  pub ready : ReadyAt times arrows plan j t
  pub earliest : (x : ℕ) → x < place → ¬ ReadyAt times arrows plan (get_or order x 0) t
  pub in_range : Among 1 M p
  pub free : FreeAt times plan p t
  pub lowest : (q : ℕ) → Among 1 M q → q < p → ¬ FreeAt times plan q t

-- the plan with subtask j on processor p from t on
unfoldable pub put : List Entry → ℕ → ℕ → ℕ → List Entry
put plan j p t = set plan (j - 1) (at p t)

-- What the rule has made with the clock at t = 0, 1, 2, ..: as long as a processor is free and a subtask is ready, one goes; only then the clock moves on.
pub data ByRule (times : List ℕ) (arrows : List (List ℕ)) (order : List ℕ) (M : ℕ) : ℕ → List Entry → Type 0 where
  begin : ByRule times arrows order M 0 (replicate (length times) not_placed)
  goes : {t : ℕ} {plan : List Entry} → ByRule times arrows order M t plan → (j p : ℕ) → Goes times arrows order M plan t j p
      → ByRule times arrows order M t (put plan j p t)
  tick : {t : ℕ} {plan : List Entry} → ByRule times arrows order M t plan → ¬ IdleAt times arrows M plan t → ByRule times arrows order M (suc t) plan

-- the list plan: what the rule has made when every subtask is placed
pub record IsListPlan (times : List ℕ) (arrows : List (List ℕ)) (order : List ℕ) (M : ℕ) (plan : List Entry) : Type 0 where
  pub clock : ℕ
  pub made : ByRule times arrows order M clock plan
  pub all : (j : ℕ) → IsSubtask times j → Placed plan j
