-- The two tables of the chains.
use Rattle.std.specs.Prelude.{◌≡◌, List, ℕ, length, replicate}
use Rattle.terms.specs.Graphs.{to_of}
use Rattle.graph.specs.Chains.{Chains}
use Rattle.graph.specs.declared.chains.Links.{Links}

-- no arrow is in a chain
abbrev pub IsEmpty : Links → Type 0
IsEmpty links = (links.first ≡ replicate 257 0) × (length links.next ≡ 2048)

-- they hold the chains of the arrows into each subtask
abbrev pub Linked : List (List ℕ) → Links → Type 0
Linked arrows links = Chains (to_of arrows) links.first links.next (length arrows)
