-- The first two subtasks that clash. Assumes nothing.
use Rattle.std.proofs.Common.{List, ℕ, ◌+◌, ◌<◌, length, None, Some, arith}
use Rattle.terms.specs.declared.Entry.{Entry}
use Rattle.terms.specs.declared.Subtask.{Subtask}
use Rattle.theory.specs.First.{IsFirstSubtask}
use Rattle.theory.proofs.Firsts.{NoneTo}
use Rattle.plancheck.specs.Scans.{Clash, Clashes, FirstClash}
use Rattle.plancheck.proofs.FirstSubtasks.{first_here}

-- a subtask does not clash with itself or with one before it
pub none_before : (times : List ℕ) (plan : List Entry) (i : ℕ) → NoneTo (Clash times plan i) i
none_before times plan i k l c = omega (arith, c.after)

module _ {times : List ℕ} {plan : List Entry} {i : ℕ} (none : NoneTo (Clashes times plan) i) where
  pub pair_found : (j : Subtask) → i < length times → IsFirstSubtask (length times) (Clash times plan (i + 1)) (Some j)
      → FirstClash times plan (Some (record { lower = record { 0 = i + 1 }; higher = j }))
  unfolding FirstClash IsFirstSubtask
  pair_found j l f = (first_here (Clashes times plan) none l (record { other = j.0; is_subtask = f.0; clash = f.1 }), f)

-- no clash of i, from what the scan for it answered
pub no_clashes : {times : List ℕ} {plan : List Entry} {i : ℕ} → IsFirstSubtask (length times) (Clash times plan i) None → ¬ Clashes times plan i
unfolding IsFirstSubtask
no_clashes f c = f c.other c.is_subtask c.clash
