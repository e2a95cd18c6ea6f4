-- How many run at an instant; the earliest instant at which one idles. Assumes nothing.
use Rattle.std.proofs.Common.{◌≡◌, refl, sym, ap, ◌∙◌, List, [], ◌∷◌, ℕ, suc, ◌+◌, ◌-◌, ◌≤◌, ◌<◌, ◌%◌, Option, None, Some, Bool, true, false, cond, nat_lt, length, get_or, arith, add-one}
use Rattle.std.proofs.Math.Decide.{dec_le, dec_lt, ℕ_discrete}
use Rattle.std.proofs.Math.Logic.{by_cases}
use Rattle.std.proofs.Math.Nat.{suc_inj}
use Rattle.std.specs.List.{zip}
use Rattle.std.proofs.lemmas.List.Sums.{sum_by-cons}
use Rattle.std.proofs.lemmas.Bool.Decides.{nat_tests}
use Rattle.terms.specs.Graphs.{Among, IsSubtask}
use Rattle.terms.specs.Plans.{not_placed, Placed, RunsAt, end_of}
use Rattle.forms.proofs.PlanEnds.{start_next, end_next}
use Rattle.terms.specs.declared.Entry.{Entry}
use Rattle.terms.specs.Sums.{sum}
use Rattle.theory.specs.Counting.{bit}
use Rattle.theory.proofs.Sums.{sum_eq, sum_first}
use Rattle.theory.proofs.Running.{dec_runs, runs, running}
use Rattle.plancheck.specs.Scans.{runs_in, running_among, SomeIdles, Earliest}

-- 1 where a subtask of this time and entry runs at t, else 0
abbrev pub one : ℕ → ℕ → Entry → ℕ
one t time entry = cond (runs_in t time entry) 1 0

one_yes : (t w : ℕ) (x : Entry) → x.start ≤ t → t < x.start + w → one t w x ≡ 1
one_yes t w x l m = grind (arith, nat_tests)

one_no : (t w : ℕ) (x : Entry) → ¬ ((x.start ≤ t) × (t < x.start + w)) → one t w x ≡ 0
one_no t w x h = by_cases (dec_le x.start t) (λ l. by_cases (dec_lt t (x.start + w)) (λ m. absurd (h (l, m))) (λ m. grind (arith, nat_tests))) (λ l. grind (arith, nat_tests))

-- counted round the 32 bits, a start after t is further from it than any time
pub runs_round : (t w : ℕ) (x : Entry) → t < 4294967296 → x.start ≤ 16776960 → w < 65536 → nat_lt ((t + (4294967296 - x.start)) % 4294967296) w ≡ runs_in t w x
runs_round t w x small low short = by_cases (dec_le x.start t)
    (λ l. let e : (t + (4294967296 - x.start)) % 4294967296 ≡ t - x.start = omega arith in grind (arith, nat_tests, e))
    (λ l. let e : (t + (4294967296 - x.start)) % 4294967296 ≡ t + (4294967296 - x.start) = omega arith in grind (arith, nat_tests, e))

pub counted : (t : ℕ) (times : List ℕ) (plan : List Entry) → length plan ≡ length times
    → running_among t times plan ≡ sum (length times) (λ i. one t (get_or times i 0) (get_or plan i not_placed))
unfolding sum
counted t [] plan e = refl
counted t (w ∷ times) [] e = absurd (omega arith)
counted t (w ∷ times) (x ∷ plan) e =
    sum_by-cons (λ (p : ℕ × Entry). one t p.0 p.1) (w, x) (zip times plan) ∙ ap (λ (k : ℕ). one t w x + k) (counted t times plan (suc_inj e)) ∙ sym (sum_first (length times) (λ i. one t (get_or (w ∷ times) i 0) (get_or (x ∷ plan) i not_placed)))

-- as many, and one more where the next one runs
pub one_more : (t : ℕ) (times : List ℕ) (plan : List Entry) (k : ℕ) {count b : ℕ} → count ≡ sum k (λ i. one t (get_or times i 0) (get_or plan i not_placed))
    → b ≡ one t (get_or times k 0) (get_or plan k not_placed) → count + b ≡ sum (k + 1) (λ i. one t (get_or times i 0) (get_or plan i not_placed))
unfolding sum
one_more t times plan k so_far this = rw (so_far, this, add-one) refl

pub one_small : (t time : ℕ) (entry : Entry) → one t time entry ≤ 1
one_small t time entry = go (runs_in t time entry)
  where
    go : (b : Bool) → cond b 1 0 ≤ 1
    go true = omega arith
    go false = omega arith

-- where every subtask is placed, those are the ones that run
pub among_running : (times : List ℕ) (plan : List Entry) (t : ℕ) → length plan ≡ length times → ((j : ℕ) → IsSubtask times j → Placed plan j)
    → running_among t times plan ≡ running times plan t
unfolding running runs bit
among_running times plan t whole placed = counted t times plan whole ∙ sum_eq (length times) _ _ (λ i l. same i l (dec_runs times plan (suc i) t))
  where
    same : (i : ℕ) → i < length times → (d : Dec (RunsAt times plan (suc i) t)) → one t (get_or times i 0) (get_or plan i not_placed) ≡ bit d
    same i l (yes r) =
        one_yes t (get_or times i 0) (get_or plan i not_placed) (omega (arith, r.begun, rw add-one at (start_next times plan i))) (omega (arith, r.unended, rw add-one at (end_next times plan i)))
    same i l (no n) = one_no t (get_or times i 0) (get_or plan i not_placed) (λ h. n (record {
      placed = placed (suc i) (record { low = omega arith; high = l });
      begun = omega (arith, h.0, rw add-one at (start_next times plan i));
      unended = omega (arith, h.1, rw add-one at (end_next times plan i));
    }))

-- ---- the earliest

module _ (times : List ℕ) (plan : List Entry) (ready : List ℕ) (M : ℕ) where
  pub earliest_first : (k : ℕ) → SomeIdles times plan ready M 0 → Earliest times plan ready M k (Some 0)
  unfolding Earliest
  earliest_first k some = (some, λ _. refl, λ i a s. omega arith)

  pub earliest_none : ¬ SomeIdles times plan ready M 0 → Earliest times plan ready M 0 None
  unfolding Earliest
  earliest_none none = (none, λ i a. absurd (omega (arith, a.low, a.high)))

  module _ (j e : ℕ) (q : e ≡ end_of times plan j) where
    -- of 1..j, below j
    below : {k : ℕ} → Among 1 j k → ¬ (k ≡ j) → Among 1 (j - 1) k
    below a c = record { low = a.low; high = omega (arith, a.high, c) }

    pub earliest_stays : (found : ℕ) → Earliest times plan ready M (j - 1) (Some found) → found ≤ e → Earliest times plan ready M j (Some found)
    unfolding Earliest
    earliest_stays found (some, at0, later) l =
        (some, at0, λ k a s. by_cases (ℕ_discrete k j) (λ c. rw c (omega (arith, q, l))) (λ c. later k (below a c) s))

    -- no subtask idles before e
    pub earliest_moves : (found : Option ℕ) → Earliest times plan ready M (j - 1) found → ((t : ℕ) → found ≡ Some t → e < t) → SomeIdles times plan ready M e
        → Earliest times plan ready M j (Some e)
    unfolding Earliest
    earliest_moves None (none, later) l some =
        (some, λ s. absurd (none s), λ k a s. by_cases (ℕ_discrete k j) (λ c. rw c (omega (arith, q))) (λ c. absurd (later k (below a c) s)))
    earliest_moves (Some t) (is, at0, later) l some =
        let b : e < t = l t refl in (
          some,
          λ s. omega (arith, at0 s, b),
          λ k a s. by_cases (ℕ_discrete k j) (λ c. rw c (omega (arith, q)))
              (λ c. omega (arith, later k (below a c) s, b)),
        )

    pub earliest_skips : (found : Option ℕ) → Earliest times plan ready M (j - 1) found → ¬ SomeIdles times plan ready M e → Earliest times plan ready M j found
    unfolding Earliest
    earliest_skips None (none, later) not_here =
        (none, λ k a s. by_cases (ℕ_discrete k j) (λ c. not_here (rw (c, ← q) at s)) (λ c. later k (below a c) s))
    earliest_skips (Some t) (is, at0, later) not_here =
        (is, at0, λ k a s. by_cases (ℕ_discrete k j) (λ c. absurd (not_here (rw (c, ← q) at s))) (λ c. later k (below a c) s))
