-- From C and P as measured to the answer: how large the numbers are, and the answer with a verdict or with a refusal. Assumes nothing.
use Rattle.std.proofs.Common.{◌≡◌, refl, List, ℕ, ◌+◌, ◌-◌, ◌*◌, ◌≤◌, arith, mul-le-mul, mul-pos}
use Rattle.terms.specs.Rows.{RefusedBy}
use Rattle.terms.specs.Graphs.{Among, IsSubtask, In16Bits}
use Rattle.terms.specs.Refusals.{verdict_rows}
use Rattle.terms.specs.Replies.{IsMeasure, IsOutcome, IsAnswer}
use Rattle.terms.specs.Paths.{alone, weight}
use Rattle.terms.specs.Verdicts.{bound, no_figures}
use Rattle.terms.specs.declared.Refusal.{Refusal}
use Rattle.terms.specs.declared.Weights.{Weights}
use Rattle.terms.specs.declared.Answer.{Answer}
use Rattle.theory.proofs.Accepted.{sound_verdict}
use Rattle.theory.proofs.Bounds.{measured_small, bound_small}
use Rattle.verdict.specs.Judges.{Askable, Judges}
use Rattle.std.specs.Prelude.{Ok, Err}

-- ---- C and P of an accepted question
module _ {C P M D : ℕ} (a : Askable C P M D) where
  -- S fits 32 bits
  pub s_small : C + (M - 1) * P ≤ 268431360
  unfolding bound
  s_small = bound_small C P M a.work.high a.path a.processors

  -- M × D fits a 32-bit float
  pub room_is : Among 1 16776960 (M * D)
  room_is =
      let most : M * D ≤ 16000000 = mul-le-mul {n₂ = 16} {m₂ = 1000000} a.processors.high a.deadline.high in
      record { low = mul-pos a.processors.low a.deadline.low; high = omega arith }

module _ (times : List ℕ) (arrows : List (List ℕ)) (M D : ℕ) where
  -- ---- no row of the verdict holds, and C and P are measured
  module _ (weights : Weights) (told : IsMeasure (verdict_rows times arrows M D) times arrows (Ok weights)) where
    pub askable : In16Bits times → Askable weights.c weights.p M D
    unfolding IsMeasure weight
    askable bits =
        let sound = sound_verdict times arrows M D told.0 in
        let small = measured_small weights.p sound.0 bits told.2 in
        let one : IsSubtask times 1 = record { low = omega arith; high = sound.0.count.low } in
        record {
          work = record {
            low = omega (arith, told.1, sound.0.positive 1 one, told.2.most 1 (alone 1 one), small.0);
            high = omega (arith, told.1, small.1);
          };
          path = omega (arith, told.1, small.0);
          processors = sound.1;
          deadline = sound.2;
        }

    -- the answer with a verdict
    pub judged : {answer : Answer} → Judges weights.c weights.p M D answer → IsAnswer times arrows M D answer
    unfolding IsMeasure IsOutcome
    judged j = rw (j.outcome_is, j.figures_are) (
      told.0,
      record { work = told.1; path = told.2; sum = refl; load_is = refl },
      j.verdict_is,
    )

  -- ---- the answer with a refusal
  pub refused_answer : {refusal : Refusal} {answer : Answer} → (answer.figures ≡ no_figures) × (answer.outcome ≡ Err refusal)
      → RefusedBy (verdict_rows times arrows M D) refusal → IsAnswer times arrows M D answer
  unfolding IsOutcome
  refused_answer (none, is) r = rw is (r, none)
