-- How many subtasks run at an instant; where fewer than M run a processor is free, and the other way round. Assumes nothing.
use Rattle.std.proofs.Common.{◌≡◌, refl, sym, ◌∙◌, ◌⊎◌, inl, inr, ⊎_elim, List, ℕ, suc, ◌+◌, ◌-◌, ◌≤◌, ◌<◌, arith, length}
use mathlib.Core.Logic.Dec
use Rattle.std.proofs.Math.Logic.{by_cases}
use Rattle.std.proofs.Math.Nat.{suc_inj}
use Rattle.std.proofs.Math.Decide.{dec_le, ℕ_discrete}
use Rattle.terms.specs.Graphs.{Among, IsSubtask, time_of, from_of, to_of, Precedes}
use Rattle.terms.specs.Paths.{total_work}
use Rattle.terms.specs.Plans.{processor_of, start_of, end_of, Placed, RunsAt, FreeAt}
use Rattle.terms.specs.declared.Entry.{Entry}
use Rattle.terms.proofs.Decide.{via, dec_some}
pub use Rattle.terms.proofs.Decide.{dec_runs}
use Rattle.theory.proofs.SoundPlans.{SoundPlan}
use Rattle.terms.specs.Sums.{sum}
use Rattle.theory.specs.Counting.{bit}
use Rattle.theory.proofs.Sums.{sum_zero, sum_le, sum_eq, sum_add, sum_const, sum_swap, sum_mono, bit_yes, bit_no, bit_le, bit_one, bit_mono}
use Rattle.theory.proofs.Sums.{sum_one, sum_lone, window, sum_term₁}
use Rattle.theory.proofs.Search.{search}
use Rattle.theory.proofs.Work.{total_sum}

pub dec_precedes : (arrows : List (List ℕ)) (i j : ℕ) → Dec (Precedes arrows i j)
dec_precedes arrows i j = via
    (λ x. record { place = x.0; inside = x.1; begins = x.2.0; arrives = x.2.1 })
    (λ w. (w.place, w.inside, (w.begins, w.arrives)))
    (dec_some (length arrows) (λ a. (from_of arrows a ≡ i) × (to_of arrows a ≡ j)) (λ a. Dec.and (ℕ_discrete (from_of arrows a) i) (ℕ_discrete (to_of arrows a) j)))

-- 1 where subtask j runs at t, else 0; and how many run at t
unfoldable pub runs : List ℕ → List Entry → ℕ → ℕ → ℕ
runs times plan j t = bit (dec_runs times plan j t)

unfoldable pub running : List ℕ → List Entry → ℕ → ℕ
running times plan t = sum (length times) (λ i. runs times plan (suc i) t)

-- a subtask that runs is counted
pub counted : (times : List ℕ) (plan : List Entry) (j t : ℕ) → IsSubtask times j → RunsAt times plan j t → 1 ≤ running times plan t
unfolding running runs
counted times plan j t s r =
    let a = sum_term₁ (length times) (λ i. runs times plan i t) j s in
    let b : runs times plan j t ≡ 1 = bit_yes (dec_runs times plan j t) r in
    omega arith

-- over all instants subtask j is counted as often as its time says
runs_sum : (times : List ℕ) (plan : List Entry) (E j : ℕ) → Placed plan j → end_of times plan j ≤ E → sum E (λ t. runs times plan j t) ≡ time_of times j
unfolding runs end_of
runs_sum times plan E j b l = window (start_of plan j) (time_of times j) E (λ t. runs times plan j t) l
    (λ t p. bit_no (dec_runs times plan j t) (λ r. omega (arith, r.begun)))
    (λ t p q. bit_yes (dec_runs times plan j t) (record { placed = b; begun = p; unended = q }))
    (λ t p. bit_no (dec_runs times plan j t) (λ r. omega (arith, r.unended)))

-- a subtask that has not been placed is not counted
pub runs_none : (times : List ℕ) (plan : List Entry) (t j : ℕ) → ¬ Placed plan j → sum t (λ u. runs times plan j u) ≡ 0
unfolding runs
runs_none times plan t j b = sum_zero t (λ u. runs times plan j u) (λ u l. bit_no (dec_runs times plan j u) (λ r. b r.placed))

-- before any instant subtask j is counted at most as often as its time says
pub runs_most : (times : List ℕ) (plan : List Entry) (t j : ℕ) → sum t (λ u. runs times plan j u) ≤ time_of times j
runs_most times plan t j = by_cases (dec_le 1 (processor_of plan j))
    (λ b. omega (arith, runs_sum times plan (t + end_of times plan j) j b (omega arith), sum_mono t (t + end_of times plan j) (λ u. runs times plan j u) (omega arith)))
    (λ b. omega (arith, runs_none times plan t j b))

-- so the counts add up to the total work
pub running_sum : (times : List ℕ) (plan : List Entry) (E : ℕ) → ((j : ℕ) → IsSubtask times j → Placed plan j × (end_of times plan j ≤ E))
    → sum E (λ t. running times plan t) ≡ total_work times
unfolding running
running_sum times plan E h =
    sum_swap E (length times) (λ t i. runs times plan (suc i) t)
    ∙ sum_eq (length times) _ _ (λ i l. let x = h (suc i) (record { low = omega arith; high = l }) in runs_sum times plan E (suc i) x.0 x.1)
    ∙ sym (total_sum times)

-- subtask j runs at t on processor p
abbrev pub RunsOn : List ℕ → List Entry → ℕ → ℕ → ℕ → Type 0
RunsOn times plan p t j = (processor_of plan j ≡ p) × RunsAt times plan j t

dec_runs_on : (times : List ℕ) (plan : List Entry) (j p t : ℕ) → Dec (RunsOn times plan p t j)
dec_runs_on times plan j p t = Dec.and (ℕ_discrete (processor_of plan j) p) (dec_runs times plan j t)

-- a processor is busy, by a subtask that can be named, or free
pub busy_or_free : (times : List ℕ) (plan : List Entry) (p t : ℕ) → ((j : ℕ) × IsSubtask times j × RunsOn times plan p t j) ⊎ FreeAt times plan p t
busy_or_free times plan p t =
    ⊎_elim (λ found. inl found) (λ h. inr (λ j s e r. h j s (e, r)))
    (search (length times) (RunsOn times plan p t) (λ j. dec_runs_on times plan j p t))

-- 1 where subtask j runs at t on p
on : List ℕ → List Entry → ℕ → ℕ → ℕ → ℕ
on times plan j p t = bit (dec_runs_on times plan j p t)

on_runs : (times : List ℕ) (plan : List Entry) (M j t : ℕ) → sum M (λ p. on times plan j (suc p) t) ≤ runs times plan j t
unfolding on runs
on_runs times plan M j t = sum_one M (λ p. on times plan j (suc p) t) (processor_of plan j - 1) (runs times plan j t)
    (λ p l h. bit_no (dec_runs_on times plan j (suc p) t) (λ r. let e = r.0 in omega arith))
    (bit_mono (dec_runs_on times plan j (suc (processor_of plan j - 1)) t) (dec_runs times plan j t) (λ r. r.1))

-- where fewer than M run, a processor is free
pub free_when_fewer : (times : List ℕ) (plan : List Entry) (M t : ℕ) → running times plan t < M → (p : ℕ) × Among 1 M p × FreeAt times plan p t
unfolding running on
free_when_fewer times plan M t l = ⊎_elim (λ found. found) (λ h. absurd (crowded h)) (search M (λ p. FreeAt times plan p t) decided)
  where
    decided : (p : ℕ) → Dec (FreeAt times plan p t)
    decided p = ⊎_elim (λ j. no (λ f. f j.0 j.1 j.2.0 j.2.1)) (λ f. yes f) (busy_or_free times plan p t)

    busy : (p : ℕ) → ¬ FreeAt times plan p t → 1 ≤ sum (length times) (λ i. on times plan (suc i) p t)
    busy p h =
        ⊎_elim
        (λ j.
        let x = sum_term₁ (length times) (λ i. on times plan i p t) j.0 j.1 in
        let y : on times plan j.0 p t ≡ 1 = bit_yes (dec_runs_on times plan j.0 p t) j.2 in
        omega arith)
        (λ f. absurd (h f))
        (busy_or_free times plan p t)

    crowded : ¬ ((p : ℕ) → Among 1 M p → ¬ FreeAt times plan p t)
    crowded h =
        let a : sum M (λ p. 1) ≤ sum M (λ p. sum (length times) (λ i. on times plan (suc i) (suc p) t)) =
        sum_le M _ _ (λ p q. busy (suc p) (h (suc p) (record { low = omega arith; high = q }))) in
        let b = sum_swap M (length times) (λ p i. on times plan (suc i) (suc p) t) in
        let c : sum (length times) (λ i. sum M (λ p. on times plan (suc i) (suc p) t)) ≤ running times plan t =
        sum_le (length times) _ _ (λ i q. on_runs times plan M (suc i) t) in
        omega (arith, sum_const M 1)

-- where a processor is free and no two share one, fewer than M run
pub fewer_when_free : (times : List ℕ) (arrows : List (List ℕ)) (M : ℕ) (plan : List Entry) (t p : ℕ) → SoundPlan times arrows M plan → Among 1 M p
    → FreeAt times plan p t
    → running times plan t < M
unfolding running on runs
fewer_when_free times arrows M plan t p sound in_range free =
    let x : running times plan t ≤ sum (length times) (λ i. sum M (λ q. on times plan (suc i) (suc q) t)) = sum_le (length times) _ _
    (λ i l. somewhere (suc i) (subtask i l)) in
    let y = sum_swap (length times) M (λ i q. on times plan (suc i) (suc q) t) in
    let z : sum M (λ q. sum (length times) (λ i. on times plan (suc i) (suc q) t) + bit (ℕ_discrete (suc q) p)) ≤ sum M (λ q. 1) = sum_le M _ _
    (λ q l. one_each (suc q)) in
    let w = sum_add M (λ q. sum (length times) (λ i. on times plan (suc i) (suc q) t)) (λ q. bit (ℕ_discrete (suc q) p)) in
    let o = sum_term₁ M (λ q. bit (ℕ_discrete q p)) p in_range in
    omega (arith, sum_const M 1, bit_yes (ℕ_discrete p p) refl)
  where
    subtask : (i : ℕ) → i < length times → IsSubtask times (suc i)
    subtask i l = record { low = omega arith; high = l }

    somewhere : (j : ℕ) → IsSubtask times j → runs times plan j t ≤ sum M (λ q. on times plan j (suc q) t)
    somewhere j s =
        let x = sum_term₁ M (λ q. on times plan j q t) (processor_of plan j) (sound.placed j s) in
        let y : runs times plan j t ≤ on times plan j (processor_of plan j) t = bit_mono (dec_runs times plan j t)
        (dec_runs_on times plan j (processor_of plan j) t) (λ r. (refl, r)) in
        omega arith

    -- at most one on each processor, and none on p
    one_each : (q : ℕ) → sum (length times) (λ i. on times plan (suc i) q t) + bit (ℕ_discrete q p) ≤ 1
    one_each q = by_cases (ℕ_discrete q p)
        (λ e.
        let z : sum (length times) (λ i. on times plan (suc i) q t) ≡ 0 =
        sum_zero (length times) _ (λ i l. bit_no (dec_runs_on times plan (suc i) q t) (λ r. free (suc i) (subtask i l) (r.0 ∙ e) r.1)) in
        omega (arith, bit_le (ℕ_discrete q p)))
        (λ e.
        let z : sum (length times) (λ i. on times plan (suc i) q t) ≤ 1 =
        sum_lone (length times) _ (λ i. bit_le (dec_runs_on times plan (suc i) q t)) (λ i k l m d g. bit_no (dec_runs_on times plan (suc k) q t) (λ r.
        let v = bit_one (dec_runs_on times plan (suc i) q t) g in
        sound.apart (suc i) (suc k) t (subtask i l) (subtask k m) (λ c. d (suc_inj c)) (v.0 ∙ sym r.0) v.1 r.1)) in
        omega (arith, bit_no (ℕ_discrete q p) e))
