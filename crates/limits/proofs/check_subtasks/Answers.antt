-- `check_subtasks`: 1 exactly outside 1..256 subtasks, then 2 exactly where a time is 0. Assumes nothing.
use Rattle.std.proofs.Common.{arith, ◌≡◌, refl, sym, ◌∙◌, List, ℕ, ◌+◌, ◌-◌, length, get_or, nat_eq, nat_lt, Bool, true, false, cond, not, Some, None, is_some, ap, true≢false}
use Rattle.std.specs.List.{position, position_or_len}
use Rattle.std.proofs.lemmas.Bool.{false≢true, eqb-true, eqb-false, ltb-false}
use Rattle.std.proofs.lemmas.List.Sums.{prefix_len_passes}
use Rattle.std.proofs.lemmas.List.Quantifiers.{position-Some}
use Rattle.terms.specs.Rows.{Accepted, RefusedBy}
use Rattle.terms.specs.Graphs.{Among, time_of}
use Rattle.terms.specs.Refusals.{count_rows, time_rows, subtask_rows}
use Rattle.terms.specs.Replies.{IsCheck}
use Rattle.terms.specs.declared.Refusal.TheVariants.{SubtaskCount, TimeZero}
use Rattle.terms.proofs.Decisions.{told}
use Rattle.theory.proofs.Answers.{Passed, begin, past, stop, done}
use Rattle.theory.proofs.Stops.{subtask_at_lem, stop_subtask}
use Rattle.theory.proofs.Firsts.{first_here, said}
use Rattle.limits.specs.Times.{AllTakeTime}
use Rattle.limits.proofs.check_subtasks.Goals as goal

abbrev Nought : ℕ → Bool
Nought time = nat_eq time 0

module _ (times : List ℕ) where
  -- where no first place is found, no time is 0
  none_is : position Nought times ≡ None → AllTakeTime (length times) times
  none_is e i l z = go (nat_lt (position_or_len Nought times) (length times)) refl e
    where
      go : (b : Bool) → nat_lt (position_or_len Nought times) (length times) ≡ b → cond b (Some (position_or_len Nought times)) None ≡ None → ⊥
      go true w f = absurd (true≢false (ap is_some f))
      go false w f =
          let p = prefix_len_passes (λ t. not (Nought t)) times i 0 (omega (arith, l, ltb-false _ _ w)) in
          passed (Nought (get_or times i 0)) refl p
        where
          passed : (b : Bool) → Nought (get_or times i 0) ≡ b → not b ≡ true → ⊥
          passed true w f = absurd (false≢true f)
          passed false w f = eqb-false _ _ w z

  refused-1 : ¬ Among 1 256 (length times) → RefusedBy (subtask_rows times) SubtaskCount
  unfolding subtask_rows count_rows
  refused-1 h = stop (begin (subtask_rows times)) h told

  -- 1 does not hold
  module _ (count : Among 1 256 (length times)) where
    counted : Passed (subtask_rows times) (time_rows times)
    unfolding subtask_rows count_rows
    counted = past (begin (subtask_rows times)) (λ h. h count)

    refused-2 : (place : ℕ) → position Nought times ≡ Some place → RefusedBy (subtask_rows times) (TimeZero (place + 1))
    unfolding time_rows time_of
    refused-2 place e =
        let (inside, nought, none) = position-Some Nought times place 0 e in
        let same : (k : ℕ) → k + 1 - 1 ≡ k = λ k. omega arith in
        let first = first_here (length times) (λ i. time_of times (i + 1) ≡ 0) place inside
        (λ k l z. eqb-false (get_or times k 0) 0 (none k l) (rw (same k) at z))
        (rw (same place) (eqb-true (get_or times place 0) 0 nought)) in
        stop_subtask counted (subtask_at_lem _ _ refl (λ j s x. x) (λ j s x. x) first (omega arith)) told

    accepted-2 : AllTakeTime (length times) times → Accepted (subtask_rows times)
    unfolding time_rows time_of
    accepted-2 all = done (past counted (λ h. all (h.subtask - 1) (omega (arith, h.is_subtask.low, h.is_subtask.high)) h.is_so))

pub returns-then-n-lt1 : goal.returns-then-n-lt1
unfolding IsCheck
returns-then-n-lt1 c = refused-1 _ (λ h. omega (arith, h.low, h.high, c.then-n-lt1.either))

pub returns-then-all_take_time : goal.returns-then-all_take_time
unfolding IsCheck
returns-then-all_take_time c = accepted-2 _ (record { low = omega arith; high = omega arith }) (said c.if-all_take_time.true c.all_take_time.ensures)

pub returns-in-Some : goal.returns-in-Some
unfolding IsCheck
returns-in-Some c = refused-2 _ (record { low = omega arith; high = omega arith }) c.in-Some.place (sym c.first_nought.ensures ∙ c.in-Some.is)

pub returns-in-None : goal.returns-in-None
unfolding IsCheck
returns-in-None c = accepted-2 _ (record { low = omega arith; high = omega arith }) (none_is _ (sym c.first_nought.ensures ∙ c.in-None.is))
