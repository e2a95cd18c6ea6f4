-- Where a plan ends. Assumes nothing.
use Rattle.std.proofs.Common.{◌≡◌, refl, ap, ◌∙◌, List, ℕ, zero, suc, ◌+◌, ◌-◌, ◌≤◌, ◌<◌, max, length, map, get_or, arith, add-one}
use Rattle.std.proofs.Math.Decide.{dec_le, ℕ_discrete}
use Rattle.std.proofs.Math.Logic.{by_cases}
use Rattle.std.proofs.Math.ListN.{get_or-map}
use Rattle.terms.specs.Graphs.{Among, time_of}
use Rattle.terms.specs.Plans.{not_placed, processor_of, start_of, end_of, EndsAt}
use Rattle.terms.specs.declared.Entry.{Entry}
use Rattle.inputs.specs.Lent.{IsTimeOf}
use Rattle.forms.specs.Forms.{plan_end, item_of, finish_of, last_end}

-- the time at a place of the row
time_next : (times : List ℕ) (i time : ℕ) → i < length times → IsTimeOf times (i + 1) time → time ≡ get_or times i 0
unfolding time_of
time_next times i time l t =
    let e : i + 1 - 1 ≡ i = omega arith in
    let is = t.is (record { low = omega arith; high = omega arith }) in
    is ∙ ap (λ (x : ℕ). get_or times x 0) e

-- the subtask at a place of the rows
module _ (times : List ℕ) (plan : List Entry) (i : ℕ) where
  before : i + 1 - 1 ≡ i
  before = omega arith

  pub processor_next : processor_of plan (i + 1) ≡ (get_or plan i not_placed).processor.0
  unfolding processor_of
  processor_next = ap (λ (x : ℕ). (get_or plan x not_placed).processor.0) before

  pub start_next : start_of plan (i + 1) ≡ (get_or plan i not_placed).start
  unfolding start_of
  start_next = ap (λ (x : ℕ). (get_or plan x not_placed).start) before

  pub end_next : end_of times plan (i + 1) ≡ (get_or plan i not_placed).start + get_or times i 0
  unfolding end_of start_of time_of
  end_next = ap (λ (x : ℕ). (get_or plan x not_placed).start + get_or times x 0) before

-- one subtask more
pub plan_more : (times : List ℕ) (plan : List Entry) (i time start : ℕ) → i < length times → IsTimeOf times (i + 1) time
    → start ≡ (get_or plan i not_placed).start → max (plan_end times plan i) (start + time) ≡ plan_end times plan (i + 1)
unfolding plan_end end_of start_of
plan_more times plan i time start l t p = rw (p, time_next times i time l t, ← end_next times plan i, add-one i) refl

module _ (times : List ℕ) (plan : List Entry) where
  end_most : (k j : ℕ) → Among 1 k j → end_of times plan j ≤ plan_end times plan k
  unfolding plan_end
  end_most zero j a = absurd (omega (arith, a.low, a.high))
  end_most (suc k) j a = by_cases (ℕ_discrete j (suc k)) (λ e. rw e (omega arith))
      (λ e. omega (arith, end_most k j (record { low = a.low; high = omega (arith, a.high) })))

  end_reached : (k : ℕ) → (j : ℕ) × Among 1 (suc k) j × (end_of times plan j ≡ plan_end times plan (suc k))
  unfolding plan_end
  end_reached zero = (1, record { low = omega arith; high = omega arith }, omega arith)
  end_reached (suc k) =
      let r = end_reached k in
      by_cases (dec_le (plan_end times plan (suc k)) (end_of times plan (suc (suc k))))
      (λ l. (suc (suc k), record { low = omega arith; high = omega arith }, omega arith))
      (λ l. (r.0, record { low = r.1.low; high = omega (arith, r.1.high) }, omega (arith, r.2)))

  pub plan_ends : 1 ≤ length times → EndsAt times plan (plan_end times plan (length times))
  plan_ends l =
      let q : suc (length times - 1) ≡ length times = omega arith in
      let r = rw q at (end_reached (length times - 1)) in record { reached = r; most = λ j s. end_most (length times) j s }

-- ---- by a row of starts

finish_next : (times starts : List ℕ) (i : ℕ) → finish_of times starts (i + 1) ≡ get_or starts i 0 + get_or times i 0
unfolding finish_of item_of time_of
finish_next times starts i = let e : i + 1 - 1 ≡ i = omega arith in rw e refl

pub last_more : (times starts : List ℕ) (i time start : ℕ) → i < length times → IsTimeOf times (i + 1) time → start ≡ get_or starts i 0
    → max (last_end times starts i) (start + time) ≡ last_end times starts (i + 1)
unfolding last_end
last_more times starts i time start l t p = rw (p, time_next times i time l t, ← finish_next times starts i, add-one i) refl

-- it is the end of each plan with these starts
pub same_end : (times : List ℕ) (plan : List Entry) (k : ℕ) → last_end times (map (λ entry. entry.start) plan) k ≡ plan_end times plan k
unfolding plan_end last_end finish_of item_of end_of start_of
same_end times plan zero = refl
same_end times plan (suc k) = rw (same_end times plan k, at (suc k)) refl
  where
    at : (j : ℕ) → get_or (map (λ entry. entry.start) plan) (j - 1) 0 ≡ (get_or plan (j - 1) not_placed).start
    at j = get_or-map (λ entry. entry.start) plan (j - 1) not_placed
