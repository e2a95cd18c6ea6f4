-- What the check of a graph answers, and what it leaves.
use Rattle.std.specs.Prelude.{Some, None, List, ℕ, ◌+◌, length, Result, Ok, Err}
use Rattle.terms.specs.Rows.{Row, Accepted, RefusedBy}
use Rattle.theory.specs.First.{IsFirst}
use Rattle.graph.specs.Scans.{Outside, Loops}
use Rattle.terms.specs.declared.Refusal.{Refusal}
use Rattle.terms.specs.declared.Refusal.TheVariants.{ArrowOutside, ArrowToItself}
use Rattle.graph.specs.Links.{Linked}
use Rattle.graph.specs.declared.chains.Links.{Links}
use Rattle.graph.specs.Ordered.{Ordered}

-- the refusal of arrows of which some has wrong ends: 4 at the first that names a subtask outside 1..n; else 5 at the first that goes from a
-- subtask to itself
pub data WrongEnds (n : ℕ) (arrows : List (List ℕ)) : Refusal → Type 0 where
  names_outside : (i : ℕ) → IsFirst (length arrows) (Outside n arrows) (Some i) → WrongEnds n arrows (ArrowOutside (i + 1))
  none_outside : (i : ℕ) → IsFirst (length arrows) (Outside n arrows) None → IsFirst (length arrows) (Loops arrows) (Some i)
      → WrongEnds n arrows (ArrowToItself (i + 1))

-- these rows refuse; or they accept, the arrows stand as chains and the subtasks in an order, predecessors first
pub data Finds (rows : List Row) (times : List ℕ) (arrows : List (List ℕ)) (links : Links) (order : List ℕ) : Result (Unit {0}) Refusal → Type 0 where
  refused : {refusal : Refusal} → RefusedBy rows refusal → Finds rows times arrows links order (Err refusal)
  sound : Accepted rows → Linked arrows links → Ordered (length times) arrows order
      → Finds rows times arrows links order (Ok tt)
