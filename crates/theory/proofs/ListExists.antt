-- The list rule makes a plan of every accepted graph. Assumes nothing.
use Rattle.std.proofs.Common.{◌≡◌, ◌≢◌, ◌⊎◌, inl, inr, ⊎_elim, List, ℕ, zero, suc, ◌+◌, ◌-◌, ◌≤◌, ◌<◌, arith, length, get_or, replicate}
use Rattle.std.proofs.Math.Logic.{by_cases}
use Rattle.std.proofs.Math.Decide.{dec_le, ℕ_discrete}
use Rattle.terms.specs.Graphs.{IsSubtask}
use Rattle.terms.specs.Paths.{total_work}
use Rattle.terms.specs.Plans.{not_placed, processor_of, Placed, ReadyAt, FreeAt, IdleAt}
use Rattle.terms.specs.ListRule.{IsOrder, Goes, put, ByRule, begin, goes, tick, IsListPlan}
use Rattle.terms.specs.declared.Entry.{Entry}
use Rattle.theory.specs.Sound.{SoundGraph}
use Rattle.terms.specs.Sums.{sum}
use Rattle.theory.specs.Counting.{bit}
use Rattle.theory.proofs.Sums.{sum_le, sum_add, sum_const, bit_yes, bit_no, bit_le, own_one}
use Rattle.theory.proofs.Pigeonhole.{onto}
use Rattle.terms.proofs.Decide.{seek, dec_ready, dec_free}
use Rattle.terms.proofs.Tables.{FirstReady, LowestFree, one_goes}
use Rattle.theory.proofs.ListRule.{SoFar, unplaced, new_processor, old_processor, by_rule, still_early}

-- an order holds each subtask
pub holds : (times order : List ℕ) → IsOrder times order → (j : ℕ) → IsSubtask times j → (x : ℕ) × (x < length order) × (get_or order x 0 ≡ j)
holds times order o j s = onto (length order) (λ x. get_or order x 0)
    (λ x l. let q = o.each x l in record { low = q.low; high = omega (arith, q.high, o.whole) }) o.once j
    (record { low = s.low; high = omega (arith, s.high, o.whole) })

-- one goes, or the clock moves
abbrev Step : List ℕ → List (List ℕ) → List ℕ → ℕ → List Entry → ℕ → Type 0
Step times arrows order M plan t = ((j : ℕ) × (p : ℕ) × Goes times arrows order M plan t j p) ⊎ (¬ IdleAt times arrows M plan t)

-- how many have not been placed
count : List ℕ → List Entry → ℕ
count times plan = sum (length times) (λ i. bit (dec_le (processor_of plan (suc i)) 0))

count_most : (times : List ℕ) (plan : List Entry) → count times plan ≤ length times
unfolding count
count_most times plan =
    let x : count times plan ≤ sum (length times) (λ i. 1) = sum_le (length times) _ _ (λ i l. bit_le (dec_le (processor_of plan (suc i)) 0)) in
    omega (arith, sum_const (length times) 1)

module _ (times : List ℕ) (arrows : List (List ℕ)) (order : List ℕ) (M : ℕ) (o : IsOrder times order) where
  -- the one step that the rule takes
  next : (plan : List Entry) (t : ℕ) → Step times arrows order M plan t
  next plan t = go (seek (length order) (λ x. ReadyAt times arrows plan (get_or order x 0) t) (λ x. dec_ready times arrows plan (get_or order x 0) t))
      (seek M (λ p. FreeAt times plan (suc p) t) (λ p. dec_free times plan (suc p) t))
    where
      go : FirstReady times arrows order M plan t ⊎ ((x : ℕ) → x < length order → ¬ ReadyAt times arrows plan (get_or order x 0) t)
          → LowestFree times arrows order M plan t ⊎ ((p : ℕ) → p < M → ¬ FreeAt times plan (suc p) t) → Step times arrows order M plan t
      go (inl x) (inl p) = inl (get_or order x.place 0, suc p.place, one_goes times arrows order M plan t x p)
      go (inl x) (inr h) = inr (λ d.
          let e : suc (d.processor - 1) ≡ d.processor = omega (arith, d.in_range.low) in
          h (d.processor - 1) (omega (arith, d.in_range.low, d.in_range.high)) (rw e d.free))
      go (inr f) e = inr (λ d.
          let q = holds times order o d.subtask d.is_subtask in
          f q.0 q.1 (rw q.2 d.ready))

  module _ (g : SoundGraph times arrows) where
    count_put : (t : ℕ) (plan : List Entry) (j p : ℕ) → ByRule times arrows order M t plan → Goes times arrows order M plan t j p
        → count times (put plan j p t) + 1 ≤ count times plan
    unfolding count
    count_put t plan j p r a =
        let x = sum_add (length times) (λ i. bit (dec_le (processor_of (put plan j p t) (suc i)) 0)) (λ i. bit (ℕ_discrete (suc i) j)) in
        let y : sum (length times) (λ i. bit (dec_le (processor_of (put plan j p t) (suc i)) 0) + bit (ℕ_discrete (suc i) j)) ≤ count times plan =
        sum_le (length times) _ _ (λ i l. by_cases (ℕ_discrete (suc i) j) (same i) (other i l)) in
        omega (arith, own_one (length times) j s)
      where
        v : SoFar times arrows M t plan
        v = by_rule times arrows M g order o r

        s : IsSubtask times j
        s = rw a.stands at (o.each a.place a.inside)

        same : (i : ℕ) → suc i ≡ j
            → bit (dec_le (processor_of (put plan j p t) (suc i)) 0) + bit (ℕ_discrete (suc i) j) ≤ bit (dec_le (processor_of plan (suc i)) 0)
        same i e =
            let x : processor_of (put plan j p t) (suc i) ≡ p = rw e (new_processor times arrows M g order t plan v j p s a) in
            let y : ¬ Placed plan (suc i) = rw e (unplaced times arrows M g order t plan v j p s a) in
            let after = bit_no (dec_le (processor_of (put plan j p t) (suc i)) 0) (omega (arith, a.in_range.low)) in
            let before = bit_yes (dec_le (processor_of plan (suc i)) 0) (omega arith) in
            omega (arith, bit_le (ℕ_discrete (suc i) j))

        other : (i : ℕ) → i < length times → suc i ≢ j
            → bit (dec_le (processor_of (put plan j p t) (suc i)) 0) + bit (ℕ_discrete (suc i) j) ≤ bit (dec_le (processor_of plan (suc i)) 0)
        other i l e =
            rw (old_processor times arrows M g order t plan v j p s a (suc i) (record { low = omega arith; high = l }) e)
            (omega (arith, bit_no (ℕ_discrete (suc i) j) e))

    -- what the rule makes at t when none is left to go
    Through : ℕ → Type 0
    Through t = (after : List Entry) × ByRule times arrows order M t after × (¬ IdleAt times arrows M after t)

    -- as long as one can go, one goes
    advance : (k t : ℕ) (plan : List Entry) → ByRule times arrows order M t plan → count times plan ≤ k → Through t
    unfolding Through
    advance zero t plan r c = ⊎_elim (λ s. absurd (omega (arith, count_put t plan s.0 s.1 r s.2))) (λ h. (plan, r, h)) (next plan t)
    advance (suc k) t plan r c =
        ⊎_elim (λ s. advance k t (put plan s.0 s.1 t) (goes r s.0 s.1 s.2) (omega (arith, count_put t plan s.0 s.1 r s.2)))
        (λ h. (plan, r, h)) (next plan t)

    -- the rule up to the clock t
    run : (t : ℕ) → (plan : List Entry) × ByRule times arrows order M t plan
    unfolding Through
    run zero = (replicate (length times) not_placed, begin)
    run (suc t) = let x = run t in let y = advance (length times) t x.0 x.1 (count_most times x.0) in (y.0, tick y.1 y.2)

    -- every accepted graph has a list plan
    pub list_exists : 1 ≤ M → (plan : List Entry) × IsListPlan times arrows order M plan
    list_exists one =
        let x = run (total_work times) in (
          x.0,
          record {
            clock = total_work times;
            made = x.1;
            all = λ j s. by_cases (dec_le 1 (processor_of x.0 j)) (λ b. b)
                (λ b. absurd (omega (arith, still_early times arrows M g (total_work times) x.0 one (by_rule times arrows M g order o x.1) j s b)));
          },
        )
