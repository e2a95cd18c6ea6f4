-- docs/PLANNER.md, "Nests": a product as sequences, end to end, and groups, side by side; its C and P, and the row it is written as.
use Rattle.std.specs.Prelude.{◌≡◌, List, [], ◌∷◌, ◌++◌, map, ℕ, suc, ◌+◌, ◌≤◌, max, length, get_or}
use Rattle.terms.specs.Graphs.{Among}
use Rattle.terms.specs.Joins.{Way, end_to_end, side_by_side}
use Rattle.terms.specs.declared.Weights.{Weights}

-- ---- trees

-- a sequence is made of graphs or groups, a group of graphs or sequences
abbrev pub other : Way → Way
other end_to_end = side_by_side
other side_by_side = end_to_end

-- the members of a sequence or of a group, in turn: a graph, or an opener of the other kind with members of its own
pub data Members (A : Type 0) : Way → Type 0 where
  none : {way : Way} → Members A way
  graph : {way : Way} → A → Members A way → Members A way
  opener : {way : Way} → Members A (other way) → Members A way → Members A way

-- a nest is a sequence; each of its graphs is known by its C and P
abbrev pub Nest : Type 0
Nest = Members Weights end_to_end

-- how many members there are, those of members not counted
unfoldable pub count : {A : Type 0} {way : Way} → Members A way → ℕ
count none = 0
count (graph g rest) = suc (count rest)
count (opener inner rest) = suc (count rest)

-- how many openers deep they are
unfoldable pub depth : {A : Type 0} {way : Way} → Members A way → ℕ
depth none = 0
depth (graph g rest) = depth rest
depth (opener inner rest) = max (suc (depth inner)) (depth rest)

-- ---- C and P

unfoldable pub work_of : {way : Way} → Members Weights way → ℕ
work_of none = 0
work_of (graph g rest) = g.c + work_of rest
work_of (opener inner rest) = work_of inner + work_of rest

-- P adds end to end, and is the larger of the two side by side
abbrev pub together : Way → ℕ → ℕ → ℕ
together end_to_end p q = p + q
together side_by_side p q = max p q

unfoldable pub path_of : {way : Way} → Members Weights way → ℕ
path_of none = 0
path_of {way} (graph g rest) = together way g.p (path_of rest)
path_of {way} (opener inner rest) = together way (path_of inner) (path_of rest)

-- ---- the row

-- an entry is three numbers: 0, C and P of a graph; or an opener's kind, 1 a sequence and 2 a group, its member count, and 0
abbrev pub graph_entry : Weights → List ℕ
graph_entry g = 0 ∷ g.c ∷ g.p ∷ []

abbrev pub kind_of : Way → ℕ
kind_of end_to_end = 1
kind_of side_by_side = 2

abbrev pub opener_entry : Way → ℕ → List ℕ
opener_entry way members = kind_of way ∷ members ∷ 0 ∷ []

-- each opener before its members
unfoldable pub written : {way : Way} → Members Weights way → List (List ℕ)
written none = []
written (graph g rest) = graph_entry g ∷ written rest
written {way} (opener inner rest) = opener_entry (other way) (count inner) ∷ (written inner ++ written rest)

-- P from 1 to C, C at most 16,776,960
pub record InRange (g : Weights) : Type 0 where
  pub path : Among 1 g.c g.p
  pub work : g.c ≤ 16776960

-- each graph in range, each opener with 1 to 16 members
unfoldable pub Ruled : {way : Way} → Members Weights way → Type 0
Ruled none = Unit {0}
Ruled (graph g rest) = InRange g × Ruled rest
Ruled (opener inner rest) = Among 1 16 (count inner) × Ruled inner × Ruled rest

-- an entry is read by its three numbers
abbrev pub three : List ℕ → List ℕ
three entry = get_or entry 0 0 ∷ get_or entry 1 0 ∷ get_or entry 2 0 ∷ []

abbrev pub numbers_of : List (List ℕ) → List (List ℕ)
numbers_of row = map three row

-- the row is the writing of this nest: the outermost is a sequence that fills the row, of at most 256 entries, at most eight openers deep
pub record IsNest (row : List (List ℕ)) (nest : Nest) : Type 0 where
  pub fills : numbers_of row ≡ opener_entry end_to_end (count nest) ∷ written nest
  pub short : length row ≤ 256
  pub members : Among 1 16 (count nest)
  pub ruled : Ruled nest
  pub shallow : suc (depth nest) ≤ 8

-- some nest is written so
pub record SomeNest (row : List (List ℕ)) : Type 0 where
  pub nest : Nest
  pub is_nest : IsNest row nest
