-- Those of 1..n that no arrow has at one side, and a lent row with them in front.
use Rattle.std.specs.Prelude.{◌≡◌, Bool, true, false, cond, List, [], ◌∷◌, ◌++◌, ℕ, ◌<◌, eqb, length, get_or, drop, take}
use Rattle.arranged.specs.declared.sides.Side.{Side}
use Rattle.arranged.specs.declared.sides.Side.TheVariants.{From, To}
use Rattle.arranged.specs.Sides.{end}
use Rattle.terms.specs.Arrangements.{passing}

-- no arrow of the row has v at this side
unfoldable pub is_free : Side → List (List ℕ) → ℕ → Bool
is_free side [] v = true
is_free side (arrow ∷ arrows) v = cond (eqb (end side arrow) v) false (is_free side arrows v)

-- those of 1..n of which this is so, ascending: by where arrows come from those without successors, by where they go to those without predecessors
unfoldable pub free_of : Side → List (List ℕ) → ℕ → List ℕ
free_of side arrows n = passing (is_free side arrows) n

-- those of 1..n that no arrow comes from, and those that no arrow goes to
abbrev pub free_from : List (List ℕ) → ℕ → List ℕ
free_from arrows n = free_of From arrows n

abbrev pub free_to : List (List ℕ) → ℕ → List ℕ
free_to arrows n = free_of To arrows n

-- of each number up to 256 whether none of the first k arrows has it at this side
pub record Marks (side : Side) (arrows : List (List ℕ)) (k : ℕ) (free : List Bool) : Type 0 where
  pub long : length free ≡ 258
  pub mark : (v : ℕ) → v < 257 → get_or free v false ≡ is_free side (take k arrows) v

-- so many numbers in front of a lent row, and past them the old contents
pub record IsFront (wanted before after : List ℕ) (k : ℕ) : Type 0 where
  pub count : k ≡ length wanted
  pub row : after ≡ wanted ++ drop k before
