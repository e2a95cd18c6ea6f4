-- Where no processor is free while a subtask is ready, something runs as long as something is still to start. Assumes nothing.
use mathlib.Core.Logic.Dec
use Rattle.std.proofs.Common.{◌⊎◌, inl, inr, ⊎_elim, List, ℕ, ◌≤◌, ◌<◌, arith, length}
use Rattle.std.proofs.Math.Logic.{by_cases}
use Rattle.std.proofs.Math.Decide.{dec_le, dec_lt}
use Rattle.terms.specs.Graphs.{IsSubtask, Precedes}
use Rattle.terms.specs.Plans.{processor_of, start_of, end_of, Placed, RunsAt, IdleAt}
use Rattle.terms.specs.declared.Entry.{Entry}
use Rattle.theory.specs.Sound.{SoundGraph}
use Rattle.theory.proofs.Accepted.{from_subtask}
use Rattle.theory.proofs.Search.{search, strong}
use Rattle.theory.proofs.Longest.{heaviest, arrow_rises}
use Rattle.theory.proofs.Running.{dec_precedes, running, counted}

module _ (times : List ℕ) (arrows : List (List ℕ)) (M : ℕ) (plan : List Entry) (t : ℕ) (g : SoundGraph times arrows) (one : 1 ≤ M)
    (busy : ¬ IdleAt times arrows M plan t) where
  Ended : ℕ → Type 0
  Ended k = Placed plan k × (end_of times plan k ≤ t)

  ToStart : ℕ → Type 0
  ToStart k = (t < start_of plan k) ⊎ (¬ Placed plan k)

  -- where nothing runs, what has not ended is still to start
  to_start : (k : ℕ) → ¬ RunsAt times plan k t → ¬ Ended k → ToStart k
  unfolding Ended ToStart
  to_start k idle h = by_cases (dec_le 1 (processor_of plan k))
      (λ b. by_cases (dec_lt t (start_of plan k)) (λ x. inl x)
      (λ x. absurd (idle (record { placed = b; begun = omega arith; unended = by_cases (dec_le (end_of times plan k) t) (λ y. absurd (h (b, y))) (λ y. omega arith) }))))
      (λ b. inr b)

  -- so back along the arrows, where the heaviest path falls, there is always another that is still to start
  nothing_runs : ((k : ℕ) → IsSubtask times k → ¬ RunsAt times plan k t) → (j : ℕ) → IsSubtask times j → ¬ ToStart j
  unfolding Ended ToStart
  nothing_runs idle = strong (λ j. IsSubtask times j → ¬ ToStart j) (heaviest times arrows (length times)) method
    where
      ended : (k : ℕ) → Dec (Ended k)
      ended k = Dec.and (dec_le 1 (processor_of plan k)) (dec_le (end_of times plan k) t)

      method : (j : ℕ) → ((k : ℕ) → heaviest times arrows (length times) k < heaviest times arrows (length times) j → IsSubtask times k → ¬ ToStart k)
          → IsSubtask times j → ¬ ToStart j
      method j ih s c =
          ⊎_elim (λ k. ih k.0 (arrow_rises g k.0 j k.2.0) k.1 (to_start k.0 (idle k.0 k.1) k.2.1))
          (λ h. busy (record {
            subtask = j;
            is_subtask = s;
            ready = record { served = λ i w. by_cases (ended i) (λ x. x) (λ x. absurd (h i (from_subtask g w) (w, x))); waiting = c };
            processor = 1;
            in_range = record { low = omega arith; high = one };
            free = λ k q e r. idle k q r;
          }))
          (search (length times) (λ k. Precedes arrows k j × (¬ Ended k)) (λ k. Dec.and (dec_precedes arrows k j) (Dec.not (ended k))))

  pub some_runs : (j : ℕ) → IsSubtask times j → (t < start_of plan j) ⊎ (¬ Placed plan j) → 1 ≤ running times plan t
  unfolding ToStart
  some_runs j s c = by_cases (dec_le 1 (running times plan t)) (λ x. x)
      (λ x. absurd (nothing_runs (λ k q r. let y = counted times plan k t q r in omega arith) j s c))
