-- What is read out of a lent row of times or of arrows.
use Rattle.std.specs.Prelude.{◌≡◌, List, ℕ, ◌<◌, get_or}
use Rattle.terms.specs.Graphs.{IsSubtask, time_of, from_of, to_of}
use Rattle.terms.specs.declared.Arrow.{Arrow}

-- r is the time of subtask j, and 0 where j is none
pub record IsTimeOf (times : List ℕ) (j r : ℕ) : Type 0 where
  pub is : IsSubtask times j → r ≡ time_of times j
  pub none : ¬ IsSubtask times j → r ≡ 0
  pub small : r < 65536

-- this is the arrow of two ends
pub record IsArrowOf (ends : List ℕ) (arrow : Arrow) : Type 0 where
  pub begins : arrow.from.0 ≡ get_or ends 0 0
  pub begins_small : arrow.from.0 < 65536
  pub arrives : arrow.to.0 ≡ get_or ends 1 0
  pub arrives_small : arrow.to.0 < 65536

-- this is the arrow at a place
pub record IsArrowAt (arrows : List (List ℕ)) (place : ℕ) (arrow : Arrow) : Type 0 where
  pub begins : arrow.from.0 ≡ from_of arrows place
  pub begins_small : arrow.from.0 < 65536
  pub arrives : arrow.to.0 ≡ to_of arrows place
  pub arrives_small : arrow.to.0 < 65536
