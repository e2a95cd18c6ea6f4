-- What the entries from a place of a nest's row on begin with, and what a walk over them answers.
use Rattle.std.specs.Prelude.{◌≡◌, List, [], ◌∷◌, ◌++◌, ℕ, ◌+◌, ◌-◌, ◌≤◌, ◌<◌, length, drop, Option, Some, None}
use Rattle.terms.specs.Graphs.{Among}
use Rattle.terms.specs.Joins.{Way}
use Rattle.terms.specs.Nests.{Members, count, depth, work_of, path_of, kind_of, graph_entry, written, InRange, Ruled, numbers_of}
use Rattle.terms.specs.declared.Weights.{Weights}
use Rattle.nests.specs.declared.walk.Walk.{Walk}

-- the entries from a place on, by their numbers
unfoldable pub entries_from : List (List ℕ) → ℕ → List (List ℕ)
entries_from row at = numbers_of (drop at row)

abbrev pub weights_of : ℕ → ℕ → Weights
weights_of c p = record { c = c; p = p }

-- ---- what they begin with, and `after` what comes behind

-- a graph
pub record BeginsGraph (entries : List (List ℕ)) (c p : ℕ) (after : List (List ℕ)) : Type 0 where
  pub writes : entries ≡ graph_entry (weights_of c p) ∷ after
  pub in_range : InRange (weights_of c p)

-- so many members, at most d openers deep, of this C and P
pub record Begins (way : Way) (d many : ℕ) (entries : List (List ℕ)) (c p : ℕ) (after : List (List ℕ)) : Type 0 where
  pub members : Members Weights way
  pub counts : count members ≡ many
  pub writes : entries ≡ written members ++ after
  pub ruled : Ruled members
  pub shallow : depth members ≤ d
  pub work : c ≡ work_of members
  pub path : p ≡ path_of members

-- the entry of an opener of this kind
pub record BeginsOpener (kind : ℕ) (entries : List (List ℕ)) (many : ℕ) (inside : List (List ℕ)) : Type 0 where
  pub writes : entries ≡ (kind ∷ many ∷ 0 ∷ []) ∷ inside
  pub in_range : Among 1 16 many

-- an opener with its members
pub record Opens (way : Way) (d : ℕ) (entries : List (List ℕ)) (c p : ℕ) (after : List (List ℕ)) : Type 0 where
  pub many : ℕ
  pub inside : List (List ℕ)
  pub opener : BeginsOpener (kind_of way) entries many inside
  pub deep : 1 ≤ d
  pub begins : Begins way (d - 1) many inside c p after

-- ---- what is answered

-- how many members the opener of this kind at a place has, where there is one
abbrev pub CountsAt : List (List ℕ) → ℕ → ℕ → Option ℕ → Type 0
CountsAt row at kind (Some many) = (at < length row) × BeginsOpener kind (entries_from row at) many (entries_from row (at + 1))
CountsAt row at kind None = (many : ℕ) (inside : List (List ℕ)) → ¬ BeginsOpener kind (entries_from row at) many inside

-- a walk over what is so: its C and P, and where the entries behind it begin; or nothing is so
abbrev pub Tells : List (List ℕ) → (ℕ → ℕ → List (List ℕ) → Type 0) → Option Walk → Type 0
Tells row IsSo (Some walk) = IsSo walk.c walk.p (entries_from row walk.next)
Tells row IsSo None = (c p : ℕ) (after : List (List ℕ)) → ¬ IsSo c p after

-- over a graph, a member, an opener
abbrev pub GraphAt : List (List ℕ) → ℕ → Option Walk → Type 0
GraphAt row at walk = Tells row (BeginsGraph (entries_from row at)) walk

abbrev pub OpenerAt : Way → ℕ → List (List ℕ) → ℕ → Option Walk → Type 0
OpenerAt way d row at walk = Tells row (Opens way d (entries_from row at)) walk
