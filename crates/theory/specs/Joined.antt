-- What a join makes, as relations that its laws read. No limit stands here.
use Rattle.std.specs.Prelude.{◌≡◌, List, [], ◌∷◌, ℕ, ◌+◌, ◌≤◌, ◌<◌, length}
use Rattle.terms.specs.Rows.{Accepted}
use Rattle.terms.specs.Graphs.{IsSubtask, time_of, from_of, to_of, Precedes, LeadsTo}
use Rattle.terms.specs.Refusals.{graph_rows}
use Rattle.terms.specs.Joins.{Graph, size, Way, end_to_end}

-- none of 1 to 7 holds
abbrev pub IsAccepted : Graph → Type 0
IsAccepted g = Accepted (graph_rows g.times g.arrows)

-- accepted but for the limits: there is a subtask, and 2 and 4 to 7 do not hold (5 does not where 7 does not)
pub record Faultless (g : Graph) : Type 0 where
  pub some : 1 ≤ size g
  pub positive : (j : ℕ) → IsSubtask g.times j → 1 ≤ time_of g.times j
  pub named : (p : ℕ) → p < length g.arrows → IsSubtask g.times (from_of g.arrows p) × IsSubtask g.times (to_of g.arrows p)
  pub once : (p q : ℕ) → p < q → q < length g.arrows
      → ¬ ((from_of g.arrows p ≡ from_of g.arrows q) × (to_of g.arrows p ≡ to_of g.arrows q))
  pub acyclic : (j : ℕ) → ¬ LeadsTo g.arrows j j

-- a subtask without successors, and one without predecessors
pub record IsLast (g : Graph) (i : ℕ) : Type 0 where
  pub is_subtask : IsSubtask g.times i
  pub without : (j : ℕ) → ¬ Precedes g.arrows i j

pub record IsFirst (g : Graph) (j : ℕ) : Type 0 where
  pub is_subtask : IsSubtask g.times j
  pub without : (i : ℕ) → ¬ Precedes g.arrows i j

-- an arrow of the joined graph is one of the first's, one of the second's, or, end to end, one from a subtask of the first without successors
-- to one of the second without predecessors
pub data JoinedArrow (way : Way) (a b : Graph) (x y : ℕ) : Type 0 where
  of_first : Precedes a.arrows x y → JoinedArrow way a b x y
  of_second : (i j : ℕ) → Precedes b.arrows i j → x ≡ size a + i → y ≡ size a + j → JoinedArrow way a b x y
  between : (j : ℕ) → way ≡ end_to_end → IsLast a x → IsFirst b j → y ≡ size a + j → JoinedArrow way a b x y

-- the successors of a subtask of the first: its own, or where it has none those that arrows are added to
abbrev pub or_else : List ℕ → List ℕ → List ℕ
or_else targets [] = targets
or_else targets (x ∷ xs) = x ∷ xs
