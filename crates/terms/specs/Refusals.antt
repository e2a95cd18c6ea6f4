-- docs/PLANNER.md, "Numbers of refusal": the table, row by row with its places, and which rows each call asks, in its order.
use Rattle.std.specs.Prelude.{◌≡◌, ◌≢◌, ◌⊎◌, List, [], ◌∷◌, ◌++◌, ℕ, ◌-◌, ◌≤◌, ◌<◌, length}
use Rattle.terms.specs.Rows.{smallest, pair, Row, row}
use Rattle.terms.specs.Graphs.{Among, IsSubtask, time_of, from_of, to_of, Precedes, LeadsTo}
use Rattle.terms.specs.Plans.{processor_of, start_of, end_of, RunsAt, IdleAt}
use Rattle.terms.specs.ListRule.{IsOrder}
use Rattle.terms.specs.Writings.{stg_text}
use Rattle.terms.specs.Joins.{Graph, size}
use Rattle.terms.specs.Nests.{SomeNest}
use Rattle.terms.specs.declared.Entry.{Entry}

-- some subtask is so
pub record SomeSubtask (times : List ℕ) (IsSo : ℕ → Type 0) : Type 0 where
  pub subtask : ℕ
  pub is_subtask : IsSubtask times subtask
  pub is_so : IsSo subtask

-- some arrow, by its place in the row, is so
pub record SomeArrow (arrows : List (List ℕ)) (IsSo : ℕ → Type 0) : Type 0 where
  pub place : ℕ
  pub inside : place < length arrows
  pub is_so : IsSo place

-- the arrow at a place names a subtask outside 1..n
abbrev pub NamesOutside : List ℕ → List (List ℕ) → ℕ → Type 0
NamesOutside times arrows a = ¬ (IsSubtask times (from_of arrows a) × IsSubtask times (to_of arrows a))

-- the arrow at place b is the same as one before it
pub record Repeats (arrows : List (List ℕ)) (b : ℕ) : Type 0 where
  pub earlier : ℕ
  pub before : earlier < b
  pub same_from : from_of arrows earlier ≡ from_of arrows b
  pub same_to : to_of arrows earlier ≡ to_of arrows b

-- subtask j starts before a predecessor ends
pub record StartsEarly (times : List ℕ) (arrows : List (List ℕ)) (plan : List Entry) (j : ℕ) : Type 0 where
  pub predecessor : ℕ
  pub precedes : Precedes arrows predecessor j
  pub early : start_of plan j < end_of times plan predecessor

-- two subtasks on one processor share an instant
pub record Share (times : List ℕ) (plan : List Entry) (i j : ℕ) : Type 0 where
  pub two : i ≢ j
  pub same_processor : processor_of plan i ≡ processor_of plan j
  pub instant : ℕ
  pub runs : RunsAt times plan i instant
  pub runs_too : RunsAt times plan j instant

-- ---- the rows that have a place

-- j is a subtask that is so
pub record SubtaskAt (times : List ℕ) (IsSo : ℕ → Type 0) (j : ℕ) : Type 0 where
  pub is_subtask : IsSubtask times j
  pub is_so : IsSo j

-- the arrow at position x is so; positions count from 1
pub record ArrowAt (arrows : List (List ℕ)) (IsSo : ℕ → Type 0) (x : ℕ) : Type 0 where
  pub position : Among 1 (length arrows) x
  pub is_so : IsSo (x - 1)

-- i and j are two subtasks that are so, i the lower
pub record PairAt (times : List ℕ) (AreSo : ℕ → ℕ → Type 0) (i j : ℕ) : Type 0 where
  pub lower : IsSubtask times i
  pub higher : IsSubtask times j
  pub in_order : i < j
  pub are_so : AreSo i j

-- some subtask is so; the first
abbrev pub first_subtask : ℕ → List ℕ → (ℕ → Type 0) → Row
first_subtask k times IsSo = record { number = k; holds = SomeSubtask times IsSo; spot = smallest (SubtaskAt times IsSo) }

-- some arrow is so; the position of the first
abbrev pub first_arrow : ℕ → List (List ℕ) → (ℕ → Type 0) → Row
first_arrow k arrows IsSo = record { number = k; holds = SomeArrow arrows IsSo; spot = smallest (ArrowAt arrows IsSo) }

-- some two subtasks are so; the pair with the smallest lower number, then the smallest higher one
abbrev pub smallest_pair : ℕ → List ℕ → (ℕ → ℕ → Type 0) → Row
smallest_pair k times AreSo =
    record { number = k; holds = SomeSubtask times (λ i. SomeSubtask times (AreSo i)); spot = pair (PairAt times AreSo) }

-- some number is so; the lowest
abbrev pub lowest : ℕ → (ℕ → Type 0) → Row
lowest k IsSo = record { number = k; holds = (x : ℕ) × IsSo x; spot = smallest IsSo }

-- some instant is so; the earliest
abbrev pub earliest : ℕ → (ℕ → Type 0) → Row
earliest k IsSo = lowest k IsSo

-- ---- the table, in the pieces that calls ask

-- how many subtasks: 1
unfoldable pub count_rows : List ℕ → List Row
count_rows times = row 1 (¬ Among 1 256 (length times)) ∷ []

-- their times: 2
unfoldable pub time_rows : List ℕ → List Row
time_rows times = first_subtask 2 times (λ j. time_of times j ≡ 0) ∷ []

-- the subtasks: 1 and 2
unfoldable pub subtask_rows : List ℕ → List Row
subtask_rows times = count_rows times ++ time_rows times

-- how many arrows: 3
unfoldable pub size_rows : List (List ℕ) → List Row
size_rows arrows = row 3 (2048 < length arrows) ∷ []

-- the arrows: 4 to 7
unfoldable pub arrow_rows : List ℕ → List (List ℕ) → List Row
arrow_rows times arrows =
    first_arrow 4 arrows (NamesOutside times arrows)
    ∷ first_arrow 5 arrows (λ a. from_of arrows a ≡ to_of arrows a)
    ∷ first_arrow 6 arrows (Repeats arrows)
    ∷ lowest 7 (λ j. LeadsTo arrows j j)
    ∷ []

-- 1 to 7, which all but the reader ask first
unfoldable pub graph_rows : List ℕ → List (List ℕ) → List Row
graph_rows times arrows = subtask_rows times ++ (size_rows arrows ++ arrow_rows times arrows)

-- 1 to 4, which are asked where arrows may repeat or close cycles: each arrow names two subtasks
unfoldable pub named_rows : List ℕ → List (List ℕ) → List Row
named_rows times arrows = subtask_rows times ++ (size_rows arrows ++ first_arrow 4 arrows (NamesOutside times arrows) ∷ [])

-- 2 to 7, which the reader asks of the graph that was read
unfoldable pub time_and_arrow_rows : List ℕ → List (List ℕ) → List Row
time_and_arrow_rows times arrows = time_rows times ++ (size_rows arrows ++ arrow_rows times arrows)

-- how many processors: 8
unfoldable pub processor_rows : ℕ → List Row
processor_rows M = row 8 (¬ Among 1 16 M) ∷ []

-- a graph on M processors: 1 to 8
unfoldable pub on_rows : List ℕ → List (List ℕ) → ℕ → List Row
on_rows times arrows M = graph_rows times arrows ++ processor_rows M

-- the deadline: 9
unfoldable pub deadline_rows : ℕ → List Row
deadline_rows D = row 9 (¬ Among 1 1000000 D) ∷ []

-- the order, and the lent row of so many entries: 10 and 11
unfoldable pub order_rows : List ℕ → List ℕ → ℕ → List Row
order_rows times order room = row 10 (¬ IsOrder times order) ∷ row 11 (room < length times) ∷ []

-- the plan itself: 12 to 17
unfoldable pub plan_rows : List ℕ → List (List ℕ) → ℕ → List Entry → List Row
plan_rows times arrows M plan =
    row 12 (length plan ≢ length times)
    ∷ first_subtask 13 times (λ j. ¬ Among 1 M (processor_of plan j))
    ∷ first_subtask 14 times (λ j. 16776960 < start_of plan j)
    ∷ first_subtask 15 times (StartsEarly times arrows plan)
    ∷ smallest_pair 16 times (Share times plan)
    ∷ earliest 17 (IdleAt times arrows M plan)
    ∷ []

-- ---- what each call asks, in its order

-- the verdict: 1 to 9
unfoldable pub verdict_rows : List ℕ → List (List ℕ) → ℕ → ℕ → List Row
verdict_rows times arrows M D = on_rows times arrows M ++ deadline_rows D

-- the list plan, over a lent row of so many entries: 1 to 8, 10, 11
unfoldable pub list_rows : List ℕ → List (List ℕ) → ℕ → List ℕ → ℕ → List Row
list_rows times arrows M order room = on_rows times arrows M ++ order_rows times order room

-- the plan check: 1 to 8 and 12 to 17
unfoldable pub check_rows : List ℕ → List (List ℕ) → ℕ → List Entry → List Row
check_rows times arrows M plan = on_rows times arrows M ++ plan_rows times arrows M plan

-- the arrangement, over lent rows of so many begins and numbers: 1 to 4, 11
unfoldable pub arrange_rows : List ℕ → List (List ℕ) → ℕ → ℕ → List Row
arrange_rows times arrows begins numbers = named_rows times arrows ++ row 11 ((begins ≤ length times) ⊎ (numbers < length arrows)) ∷ []

-- the writer, over a lent room of so many bytes: 1 to 7, 11
unfoldable pub write_rows : List ℕ → List (List ℕ) → ℕ → List Row
write_rows times arrows room = graph_rows times arrows ++ row 11 (room < length (stg_text times arrows)) ∷ []

-- a join of a and b to g, over lent rows of so many times and arrows: 1 to 7 of a, 1 to 7 of b, 30, 31, 11
unfoldable pub join_rows : Graph → Graph → Graph → ℕ → ℕ → List Row
join_rows a b g times arrows =
    graph_rows a.times a.arrows
    ++ (graph_rows b.times b.arrows
    ++ row 30 (256 < size g)
    ∷ row 31 (2048 < length g.arrows)
    ∷ row 11 ((times < size g) ⊎ (arrows < length g.arrows))
    ∷ [])

-- the figures of a nest: 32
unfoldable pub nest_rows : List (List ℕ) → List Row
nest_rows entries = row 32 (¬ SomeNest entries) ∷ []
