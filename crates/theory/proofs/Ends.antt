-- A plan ends somewhere, and at one place only. Assumes nothing.
use Rattle.std.proofs.Common.{◌≡◌, refl, List, ℕ, ◌≤◌, arith, length}
use Rattle.terms.specs.Rows.{Accepted}
use Rattle.terms.specs.Plans.{end_of, EndsAt}
use Rattle.terms.specs.Refusals.{check_rows}
use Rattle.terms.specs.Replies.{IsChecked}
use Rattle.terms.specs.declared.Entry.{Entry}
use Rattle.theory.proofs.Accepted.{busy_plan}
use Rattle.theory.proofs.Search.{largest}
use Rattle.std.specs.Prelude.{Ok}

-- the largest end of a subtask
pub ends : (times : List ℕ) (plan : List Entry) → 1 ≤ length times → (E : ℕ) × EndsAt times plan E
ends times plan l =
    let x = largest (length times) (end_of times plan) l in
    (end_of times plan x.0, record { reached = (x.0, x.1, refl); most = x.2 })

-- and no second
pub one_end : (times : List ℕ) (plan : List Entry) (E F : ℕ) → EndsAt times plan E → EndsAt times plan F → E ≡ F
one_end times plan E F e f =
    omega (arith, e.reached.2, f.reached.2, e.most f.reached.0 f.reached.1, f.most e.reached.0 e.reached.1)

-- so the plan check has a reply for every plan that it accepts
pub checked_exists : (times : List ℕ) (arrows : List (List ℕ)) (M : ℕ) (plan : List Entry) → Accepted (check_rows times arrows M plan)
    → (E : ℕ) × IsChecked times arrows M plan (Ok E)
unfolding IsChecked
checked_exists times arrows M plan a = let e = ends times plan (busy_plan times arrows M plan a).0.count.low in (e.0, (a, e.1))
