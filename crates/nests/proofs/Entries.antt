-- The entry at a place of a nest's row: a graph or none, an opener of a kind or none. Assumes nothing.
use Rattle.std.proofs.Common.{◌≡◌, sym, ap, ◌∙◌, List, [], ◌∷◌, ℕ, suc, ◌+◌, ◌-◌, ◌≤◌, ◌<◌, arith, length, get_or, drop, length-drop, drop_of_length-le, drop-cons, Some, None}
use Rattle.std.proofs.lemmas.List.{length-map}
use Rattle.terms.specs.Graphs.{Among}
use Rattle.terms.specs.Nests.{InRange, three, numbers_of}
use Rattle.nests.specs.Walks.{entries_from, weights_of, BeginsGraph, BeginsOpener, CountsAt, GraphAt}

-- the entry of a graph
pub record IsGraph (entry : List ℕ) : Type 0 where
  pub kind_is : get_or entry 0 0 ≡ 0
  pub in_range : InRange (weights_of (get_or entry 1 0) (get_or entry 2 0))

-- the entry of an opener of this kind
pub record IsOpener (kind : ℕ) (entry : List ℕ) : Type 0 where
  pub kind_is : get_or entry 0 0 ≡ kind
  pub many : Among 1 16 (get_or entry 1 0)
  pub last_is : get_or entry 2 0 ≡ 0

module _ (row : List (List ℕ)) (at : ℕ) where
  pub entries_length : length (entries_from row at) ≡ length row - at
  unfolding entries_from
  entries_length = length-map (drop at row) three ∙ length-drop at row

  pub entries_past : length row ≤ at → entries_from row at ≡ []
  unfolding entries_from
  entries_past l = ap numbers_of (drop_of_length-le row l)

  entries_here : at < length row → entries_from row at ≡ three (get_or row at []) ∷ entries_from row (at + 1)
  unfolding entries_from
  entries_here l =
      let next : suc at ≡ at + 1 = omega arith in
      ap numbers_of (drop-cons row at [] l) ∙ ap (λ (i : ℕ). three (get_or row at []) ∷ entries_from row i) next

  -- nothing stands past the row
  none_past : {entry : List ℕ} {after : List (List ℕ)} → length row ≤ at → ¬ (entries_from row at ≡ entry ∷ after)
  none_past l e = let f = sym (entries_past l) ∙ e in let z : ◌≡◌ {A = ℕ} 0 1 = cc in omega arith

  -- ---- a graph

  pub no_graph_past : length row ≤ at → GraphAt row at None
  no_graph_past l c p after g = none_past l g.writes

  -- ---- an opener

  pub no_opener_past : (kind : ℕ) → length row ≤ at → CountsAt row at kind None
  no_opener_past kind l many inside o = none_past l o.writes

  -- this entry stands there
  module _ (entry : List ℕ) (inside : at < length row) (is : entry ≡ get_or row at []) where
    the_graph : {c p : ℕ} {after : List (List ℕ)} → BeginsGraph (entries_from row at) c p after → IsGraph entry
    the_graph {c} {p} g =
        let f = sym (entries_here inside) ∙ g.writes in
        let x : get_or entry 1 0 ≡ c = cc in
        let y : get_or entry 2 0 ≡ p = cc in
        record { kind_is = cc; in_range = rw (x, y) g.in_range }

    pub no_graph_here : ¬ IsGraph entry → GraphAt row at None
    no_graph_here none c p after g = none (the_graph g)

    pub graph_here : IsGraph entry → GraphAt row at (Some (record { next = at + 1; c = get_or entry 1 0; p = get_or entry 2 0 }))
    graph_here g = record { writes = entries_here inside ∙ cc (is, g.kind_is); in_range = g.in_range }

    -- what an opener's entry holds
    the_opener : {kind many : ℕ} {after : List (List ℕ)} → BeginsOpener kind (entries_from row at) many after → IsOpener kind entry
    the_opener {kind} {many} o =
        let f = sym (entries_here inside) ∙ o.writes in
        let x : get_or entry 1 0 ≡ many = cc in
        record { kind_is = cc; many = rw x o.in_range; last_is = cc }

    pub no_opener_here : (kind : ℕ) → ¬ IsOpener kind entry → CountsAt row at kind None
    no_opener_here kind none many after o = none (the_opener o)

    pub opener_here : (kind : ℕ) → IsOpener kind entry → CountsAt row at kind (Some (get_or entry 1 0))
    opener_here kind o = (inside, record { writes = entries_here inside ∙ cc (is, o.kind_is, o.last_is); in_range = o.many })
