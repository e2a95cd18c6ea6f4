-- The list plan with its end in the lent row, or the refusal of the table. Assumes nothing.
use Rattle.std.proofs.Common.{◌≡◌, refl, Ok, Err, List, ◌++◌, ℕ, ◌≤◌, ◌<◌, min, length, take, drop, arith, take_at, drop_at}
use Rattle.terms.specs.Rows.{Accepted, RefusedBy}
use Rattle.terms.specs.Graphs.{Among, In16Bits}
use Rattle.terms.specs.Plans.{EndsAt}
use Rattle.terms.specs.ListRule.{IsOrder, IsListPlan}
use Rattle.terms.specs.Refusals.{on_rows, order_rows, list_rows}
use Rattle.terms.specs.Replies.{IsChecked, IsListed}
use Rattle.terms.specs.declared.Entry.{Entry}
use Rattle.terms.specs.declared.Refusal.{Refusal}
use Rattle.terms.specs.declared.Refusal.TheVariants.{Order, Room}
use Rattle.terms.proofs.Decisions.{told}
use Rattle.theory.specs.Sound.{SoundGraph}
use Rattle.theory.proofs.Answers.{refused_first, Passed, begin, past, past_all, stop, done}
use Rattle.theory.proofs.Accepted.{accepted_graph, sound_on}
use Rattle.theory.proofs.Work.{total_small}
use Rattle.theory.proofs.ListRule.{by_rule, ends_early}
use Rattle.theory.proofs.ListPlans.{list_plan_accepted}
use Rattle.forms.specs.Forms.{plan_end}
use Rattle.forms.proofs.PlanEnds.{plan_ends}

-- ---- the plan

module _ {times : List ℕ} {arrows : List (List ℕ)} {M : ℕ} {order : List ℕ} {P : List Entry} (bits : In16Bits times) (on : Accepted (on_rows times arrows M))
    (o : IsOrder times order) (plan : IsListPlan times arrows order M P) (whole : length P ≡ length times) {E : ℕ}
    (last : E ≡ plan_end times P (min (length times) (length P))) where
  g : SoundGraph times arrows
  g = (sound_on times arrows M on).0

  m : Among 1 16 M
  m = (sound_on times arrows M on).1

  ends : EndsAt times P E
  ends = let upto : min (length times) (length P) ≡ length times = omega (arith, whole) in rw (last, upto) (plan_ends times P g.count.low)

  pub end_small : E ≤ 16776960
  end_small =
      let r = ends.reached in
      let so_far = by_rule times arrows M g order o plan.made in
      let q = ends_early times arrows M g plan.clock P m.low so_far r.0 r.1 (plan.all r.0 r.1) in
      omega (arith, q, r.2, total_small g bits)

  -- in front of the lent row
  pub listed : (before after : List Entry) → length times ≤ length before → after ≡ P ++ drop (length times) before
      → IsListed times arrows M order before after (Ok E)
  unfolding IsListed IsChecked list_rows order_rows
  listed before after room e =
      let front : take (length times) after ≡ P = rw e (take_at P (drop (length times) before) (length times) whole) in
      let passed : Passed (list_rows times arrows M order (length before)) (order_rows times order (length before)) =
      past_all (on_rows times arrows M) (begin (list_rows times arrows M order (length before))) on in (
        done (past (past passed (λ n. n o)) (λ n. omega arith)),
        record {
          plan = rw front plan;
          past = rw e (drop_at P (drop (length times) before) (length times) whole);
          checked = rw front (list_plan_accepted times arrows M order P (accepted_graph times arrows g) bits m o plan, ends);
        },
      )

-- ---- the refusals

module _ (times : List ℕ) (arrows : List (List ℕ)) (M : ℕ) (order : List ℕ) (row : List Entry) where
  pub refused_on : (refusal : Refusal) → RefusedBy (on_rows times arrows M) refusal → IsListed times arrows M order row row (Err refusal)
  unfolding IsListed list_rows
  refused_on refusal r = (refused_first (on_rows times arrows M) (order_rows times order (length row)) refusal r, refl)

  module _ (a : Accepted (on_rows times arrows M)) where
    on_passed : Passed (list_rows times arrows M order (length row)) (order_rows times order (length row))
    unfolding list_rows
    on_passed = past_all (on_rows times arrows M) (begin (list_rows times arrows M order (length row))) a

    pub refused_order : ¬ IsOrder times order → IsListed times arrows M order row row (Err Order)
    unfolding IsListed order_rows
    refused_order h = (stop on_passed h told, refl)

    pub refused_room : IsOrder times order → length row < length times → IsListed times arrows M order row row (Err Room)
    unfolding IsListed order_rows
    refused_room o h = (stop (past on_passed (λ n. n o)) h told, refl)
