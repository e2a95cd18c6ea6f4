-- docs/PLANNER.md, "Nests": the graphs of a nest joined as it says.
use Rattle.std.specs.Prelude.{◌≡◌, []}
use Rattle.terms.specs.Rows.{Accepted}
use Rattle.terms.specs.Paths.{total_work, IsLongest}
use Rattle.terms.specs.Refusals.{graph_rows}
use Rattle.terms.specs.Joins.{Graph, graph_of, Way, joined}
use Rattle.terms.specs.Nests.{other, Members, none, graph, opener}
use Rattle.terms.specs.declared.Weights.{Weights}

-- a graph, and the rest joined behind or beside it where there is a rest
unfoldable pub ahead : {way : Way} → Graph → Members Graph way → Graph → Graph
ahead g none rest = g
ahead {way} g (graph h more) rest = joined way g rest
ahead {way} g (opener inner more) rest = joined way g rest

-- the graphs joined as the nest says
unfoldable pub whole : {way : Way} → Members Graph way → Graph
whole none = graph_of [] []
whole (graph g rest) = ahead g rest (whole rest)
whole (opener inner rest) = ahead (whole inner) rest (whole rest)

-- the graph is accepted, with this C and P
pub record HasWeights (g : Graph) (w : Weights) : Type 0 where
  pub accepted : Accepted (graph_rows g.times g.arrows)
  pub work : total_work g.times ≡ w.c
  pub path : IsLongest g.times g.arrows w.p

-- members that are graphs, and the same with the C and P of each graph in its place
pub data Carries : (way : Way) → Members Graph way → Members Weights way → Type 0 where
  carries_none : {way : Way} → Carries way none none
  carries_graph : {way : Way} {g : Graph} {w : Weights} {graphs : Members Graph way} {nest : Members Weights way}
      → HasWeights g w → Carries way graphs nest → Carries way (graph g graphs) (graph w nest)
  carries_opener : {way : Way} {inner : Members Graph (other way)} {inner_nest : Members Weights (other way)}
      {graphs : Members Graph way} {nest : Members Weights way}
      → Carries (other way) inner inner_nest → Carries way graphs nest → Carries way (opener inner graphs) (opener inner_nest nest)
