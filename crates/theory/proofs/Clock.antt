-- The list rule's clock may jump to the next end of a placed subtask. Assumes nothing.
use Rattle.std.proofs.Math.Logic.{by_cases}
use Rattle.std.proofs.Math.Decide.{ℕ_discrete}
use Rattle.std.proofs.Common.{List, ℕ, zero, suc, ◌≤◌, ◌<◌, arith}
use Rattle.terms.specs.Graphs.{IsSubtask}
use Rattle.terms.specs.Plans.{end_of, Placed, IdleAt}
use Rattle.terms.specs.ListRule.{ByRule, tick}
use Rattle.terms.specs.declared.Entry.{Entry}
use Rattle.theory.specs.Sound.{SoundGraph}
use Rattle.theory.proofs.Instants.{same_idle}

-- the clock may jump to the next end of a placed subtask
pub jump : {times : List ℕ} {arrows : List (List ℕ)} {order : List ℕ} {M : ℕ} → SoundGraph times arrows → (t e : ℕ) (plan : List Entry)
    → ByRule times arrows order M t plan → ¬ IdleAt times arrows M plan t → t < e
    → ((j : ℕ) → IsSubtask times j → Placed plan j → t < end_of times plan j → e ≤ end_of times plan j) → ByRule times arrows order M e plan
jump g t zero plan r h l n = absurd (omega arith)
jump {times} {arrows} {M = M} g t (suc e) plan r h l n = by_cases (ℕ_discrete t e) (λ q. rw (← q) (tick r h))
    (λ q. tick (jump g t e plan r h (omega arith) (λ j s b x. omega (arith, n j s b x)))
    (λ d. h (same_idle times arrows M plan t e (omega arith) g (λ j s b x. n j s b x) d)))
