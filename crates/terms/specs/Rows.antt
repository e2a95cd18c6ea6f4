-- docs/PLANNER.md, "Numbers of refusal": the rows of the table, asked in order; the first that holds gives the refusal and says where.
use Rattle.std.specs.Prelude.{◌≡◌, ◌⊎◌, List, [], ◌∷◌, ℕ, ◌<◌}
use Rattle.terms.specs.declared.Refusal.{Refusal}
use Rattle.terms.specs.declared.Refusal.TheVariants.{SubtaskCount, TimeZero, ArrowCount, ArrowOutside, ArrowToItself, ArrowTwice, Cycle, ProcessorCount, Deadline, Order, Room, PlanLength, ProcessorOutside, StartLarge, StartEarly, Overlap, Idle, TextLength, FirstLine, TaskLine, DummyLine, TimeLarge, JoinedSubtasks, JoinedArrows, Nest}

-- the number of a refusal in the table, the place that goes with it, and where that is of two the second; else 0
abbrev pub number_of : Refusal → ℕ
number_of SubtaskCount = 1
number_of (TimeZero place) = 2
number_of ArrowCount = 3
number_of (ArrowOutside place) = 4
number_of (ArrowToItself place) = 5
number_of (ArrowTwice place) = 6
number_of (Cycle place) = 7
number_of ProcessorCount = 8
number_of Deadline = 9
number_of Order = 10
number_of Room = 11
number_of PlanLength = 12
number_of (ProcessorOutside place) = 13
number_of (StartLarge place) = 14
number_of (StartEarly place) = 15
number_of (Overlap lower higher) = 16
number_of (Idle place) = 17
number_of TextLength = 20
number_of FirstLine = 21
number_of TaskLine = 22
number_of DummyLine = 23
number_of TimeLarge = 24
number_of JoinedSubtasks = 30
number_of JoinedArrows = 31
number_of Nest = 32

abbrev pub place_of : Refusal → ℕ
place_of SubtaskCount = 0
place_of (TimeZero place) = place
place_of ArrowCount = 0
place_of (ArrowOutside place) = place
place_of (ArrowToItself place) = place
place_of (ArrowTwice place) = place
place_of (Cycle place) = place
place_of ProcessorCount = 0
place_of Deadline = 0
place_of Order = 0
place_of Room = 0
place_of PlanLength = 0
place_of (ProcessorOutside place) = place
place_of (StartLarge place) = place
place_of (StartEarly place) = place
place_of (Overlap lower higher) = lower
place_of (Idle place) = place
place_of TextLength = 0
place_of FirstLine = 0
place_of TaskLine = 0
place_of DummyLine = 0
place_of TimeLarge = 0
place_of JoinedSubtasks = 0
place_of JoinedArrows = 0
place_of Nest = 0

abbrev pub second_of : Refusal → ℕ
second_of SubtaskCount = 0
second_of (TimeZero place) = 0
second_of ArrowCount = 0
second_of (ArrowOutside place) = 0
second_of (ArrowToItself place) = 0
second_of (ArrowTwice place) = 0
second_of (Cycle place) = 0
second_of ProcessorCount = 0
second_of Deadline = 0
second_of Order = 0
second_of Room = 0
second_of PlanLength = 0
second_of (ProcessorOutside place) = 0
second_of (StartLarge place) = 0
second_of (StartEarly place) = 0
second_of (Overlap lower higher) = higher
second_of (Idle place) = 0
second_of TextLength = 0
second_of FirstLine = 0
second_of TaskLine = 0
second_of DummyLine = 0
second_of TimeLarge = 0
second_of JoinedSubtasks = 0
second_of JoinedArrows = 0
second_of Nest = 0

-- x is the smallest number that is so
pub record Smallest (IsSo : ℕ → Type 0) (x : ℕ) : Type 0 where
  pub is_so : IsSo x
  pub least : (y : ℕ) → y < x → ¬ IsSo y

-- where a row holds: at no place; at the smallest number that is so; at two numbers, the smallest lower one and then the smallest higher one
pub data Spot : Type 1 where
  nowhere : Spot
  smallest : (ℕ → Type 0) → Spot
  pair : (ℕ → ℕ → Type 0) → Spot

-- these are the place and the second number that go with it
unfoldable pub IsAt : Spot → ℕ → ℕ → Type 0
IsAt nowhere place second = (place ≡ 0) × (second ≡ 0)
IsAt (smallest IsSo) place second = Smallest IsSo place × (second ≡ 0)
IsAt (pair AreSo) place second = Smallest (λ i. (j : ℕ) × AreSo i j) place × Smallest (AreSo place) second

-- a row of the table: the number, exactly when it is given, and where
pub record Row : Type 1 where
  pub number : ℕ
  pub holds : Type 0
  pub spot : Spot

-- a row without a place
abbrev pub row : ℕ → Type 0 → Row
row k C = record { number = k; holds = C; spot = nowhere }

-- the input is accepted: no row holds
unfoldable pub Accepted : List Row → Type 0
Accepted [] = Unit {0}
Accepted (row ∷ rows) = (¬ row.holds) × Accepted rows

-- the row holds, and this refusal has its number and says where
pub record Gives (row : Row) (refusal : Refusal) : Type 0 where
  pub holds : row.holds
  pub number_is : number_of refusal ≡ row.number
  pub spot_is : IsAt row.spot (place_of refusal) (second_of refusal)

-- the input is refused: the first row that holds gives the refusal. A row is asked only where the ones before it do not hold
unfoldable pub RefusedBy : List Row → Refusal → Type 0
RefusedBy [] refusal = ⊥
RefusedBy (row ∷ rows) refusal = Gives row refusal ⊎ ((¬ row.holds) × RefusedBy rows refusal)
