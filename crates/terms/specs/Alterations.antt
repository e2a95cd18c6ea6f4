-- Demand 3: keep a graph's subtasks, shorten any times, drop any arrows, use M processors or more up to 16.
use Rattle.std.specs.Prelude.{◌≡◌, List, [], ◌∷◌, ℕ, ◌<◌, length, Ok}
use Rattle.terms.specs.Graphs.{Among, IsSubtask, time_of, Precedes}
use Rattle.terms.specs.Refusals.{Repeats}
use Rattle.terms.specs.declared.Answer.{Answer}
use Rattle.terms.specs.declared.Verdict.TheVariants.{Fits}

pub record Altered (times : List ℕ) (arrows : List (List ℕ)) (M : ℕ) (times' : List ℕ) (arrows' : List (List ℕ)) (M' : ℕ) : Type 0 where
  -- the same subtasks
  pub same : length times' ≡ length times
  -- no time longer, and none below 1
  pub shorter : (j : ℕ) → IsSubtask times j → Among 1 (time_of times j) (time_of times' j)
  -- no arrow that was not there, and none twice
  pub kept : (i j : ℕ) → Precedes arrows' i j → Precedes arrows i j
  pub once : (b : ℕ) → b < length arrows' → ¬ Repeats arrows' b
  -- M processors or more up to 16
  pub wider : Among M 16 M'

-- the second row is the first with some arrows dropped
pub data Dropped : List (List ℕ) → List (List ℕ) → Type 0 where
  none : Dropped [] []
  keep : {arrow : List ℕ} {arrows arrows' : List (List ℕ)} → Dropped arrows arrows' → Dropped (arrow ∷ arrows) (arrow ∷ arrows')
  omit : {arrow : List ℕ} {arrows arrows' : List (List ℕ)} → Dropped arrows arrows' → Dropped (arrow ∷ arrows) arrows'

-- the answer's verdict is "fits"
abbrev pub SaysFits : Answer → Type 0
SaysFits answer = (spare : ℕ) × (answer.outcome ≡ Ok (Fits spare))
