-- From the answer of the table to the reply: a refusal, or the plan's end. Assumes nothing.
use Rattle.std.proofs.Common.{◌≡◌, ◌≢◌, Ok, Err, List, ℕ, ◌<◌, min, length, arith}
use Rattle.terms.specs.Rows.{Accepted, RefusedBy}
use Rattle.terms.specs.Graphs.{In16Bits}
use Rattle.terms.specs.Plans.{end_of}
use Rattle.terms.specs.Refusals.{on_rows, plan_rows, check_rows}
use Rattle.terms.specs.Replies.{IsChecked}
use Rattle.terms.specs.declared.Refusal.{Refusal}
use Rattle.terms.specs.declared.Refusal.TheVariants.{PlanLength}
use Rattle.terms.proofs.Decisions.{told}
use Rattle.terms.specs.declared.Entry.{Entry}
use Rattle.theory.proofs.Answers.{refused_first, begin, past_all, stop}
use Rattle.theory.proofs.Accepted.{sound_on, busy_plan}
use Rattle.forms.specs.Forms.{plan_end}
use Rattle.forms.proofs.PlanEnds.{plan_ends}
use Rattle.plancheck.specs.Known.{Given}

module _ (times : List ℕ) (arrows : List (List ℕ)) (M : ℕ) (plan : List Entry) where
  -- 1 to 8
  pub refused_on : (refusal : Refusal) → RefusedBy (on_rows times arrows M) refusal → IsChecked times arrows M plan (Err refusal)
  unfolding IsChecked check_rows
  refused_on refusal r = refused_first (on_rows times arrows M) (plan_rows times arrows M plan) refusal r

  -- 12
  pub refused_12 : Accepted (on_rows times arrows M) → length plan ≢ length times → IsChecked times arrows M plan (Err PlanLength)
  unfolding IsChecked check_rows plan_rows
  refused_12 a h = stop (past_all (on_rows times arrows M) (begin (check_rows times arrows M plan)) a) h told

pub given_by : {times : List ℕ} {arrows : List (List ℕ)} {M : ℕ} {plan : List Entry} → Accepted (on_rows times arrows M) → length plan ≡ length times
    → Given times arrows M plan
given_by {times} {arrows} {M} a e = let g = sound_on times arrows M a in record { graph = g.0; processors = g.1; whole = e }

module _ {times : List ℕ} {arrows : List (List ℕ)} {M : ℕ} {plan : List Entry} (given : Given times arrows M plan) {E : ℕ}
    (last : E ≡ plan_end times plan (min (length times) (length plan))) (a : Accepted (check_rows times arrows M plan)) where
  pub ends_as : IsChecked times arrows M plan (Ok E)
  unfolding IsChecked
  ends_as =
      let n : min (length times) (length plan) ≡ length times = omega (arith, given.whole) in
      (a, rw (last, n) (plan_ends times plan given.graph.count.low))

  pub end_small : In16Bits times → E < 4294967296
  unfolding IsChecked end_of
  end_small short =
      let e = ends_as.1.reached in
      let b = (busy_plan times arrows M plan a).1 in
      omega (arith, e.2, b.sound.starts e.0 e.1, short e.0 e.1)
