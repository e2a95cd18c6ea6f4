-- What the checks of a graph say, asked one after the other. Assumes nothing.
use Rattle.std.proofs.Common.{List, ◌++◌, ℕ, ◌≤◌, length, Result, Ok, Err}
use Rattle.terms.specs.Rows.{Row, Accepted, RefusedBy}
use Rattle.terms.specs.Refusals.{graph_rows}
use Rattle.terms.specs.Replies.{IsCheck}
use Rattle.terms.specs.declared.Refusal.{Refusal}
use Rattle.theory.proofs.Answers.{refused_later, accepted_join}
use Rattle.theory.proofs.Accepted.{sound_graph}
use Rattle.graph.specs.Chains.{Tidy}
use Rattle.graph.specs.Links.{Linked}
use Rattle.graph.specs.declared.chains.Links.{Links}
use Rattle.graph.specs.Ordered.{Ordered}
use Rattle.graph.specs.Finds.{Finds, refused, sound}

-- where the first rows accept, all answer as the later ones do
pub check_later : (rows later : List Row) (reply : Result (Unit {0}) Refusal) → Accepted rows → IsCheck later reply → IsCheck (rows ++ later) reply
unfolding IsCheck
check_later rows later (Ok tt) a told = accepted_join rows later a told
check_later rows later (Err refusal) a told = refused_later rows later refusal a told

module _ {times : List ℕ} {arrows : List (List ℕ)} {links : Links} {order : List ℕ} where
  pub finds_later : {later : List Row} {reply : Result (Unit {0}) Refusal} (rows : List Row) → Accepted rows → Finds later times arrows links order reply
      → Finds (rows ++ later) times arrows links order reply
  finds_later {later} rows a (refused x) = refused (refused_later rows later _ a x)
  finds_later {later} rows a (sound x chains ordered) = sound (accepted_join rows later a x) chains ordered

  module _ {rows : List Row} where
    pub finds_check : {reply : Result (Unit {0}) Refusal} → Finds rows times arrows links order reply → IsCheck rows reply
    unfolding IsCheck
    finds_check (refused x) = x
    finds_check (sound a chains ordered) = a

    pub finds_sound : Finds rows times arrows links order (Ok tt)
        → Accepted rows × Linked arrows links × Ordered (length times) arrows order
    finds_sound (sound a chains ordered) = (a, chains, ordered)

    pub finds_refused : {refusal : Refusal} → Finds rows times arrows links order (Err refusal) → RefusedBy rows refusal
    finds_refused (refused x) = x

-- the size of a graph that is accepted
pub sized : (times : List ℕ) (arrows : List (List ℕ)) → Accepted (graph_rows times arrows) → Tidy (length times) arrows × (1 ≤ length times)
sized times arrows a =
    let g = sound_graph times arrows a in
    (record { subtasks = g.count.high; few = g.few; from_in = λ a l. (g.named a l).0; to_in = λ a l. (g.named a l).1 }, g.count.low)
