-- The sure end is reached by an accepted plan; and the verdict by it beside the comparison of M × D with S. Assumes nothing.
use Rattle.std.proofs.Common.{◌≡◌, refl, ◌↔◌, List, [], ℕ, ◌*◌, ◌≤◌, ◌<◌, arith, take}
use Rattle.terms.specs.Rows.{Accepted}
use Rattle.terms.specs.Paths.{total_work, IsLongest}
use Rattle.terms.specs.Verdicts.{bound, sure_end, IsVerdict}
use Rattle.terms.specs.Refusals.{verdict_rows}
use Rattle.terms.specs.Replies.{IsOutcome, IsAnswer, IsChecked}
use Rattle.terms.specs.Alterations.{SaysFits}
use Rattle.terms.specs.declared.Entry.{Entry}
use Rattle.terms.specs.declared.Answer.{Answer}
use Rattle.terms.specs.declared.Verdict.TheVariants.{Fits, Late}
use Rattle.terms.proofs.Examples.{long_last, order_g, examples}
use Rattle.theory.proofs.Answers.{not_both}
use Rattle.theory.proofs.Accepted.{sound_verdict}
use Rattle.theory.proofs.Bounds.{at_most_sure_end, sure_end_at_most}
use Rattle.theory.proofs.ListPlans.{listed_checked}
use Rattle.std.specs.Prelude.{Result, Ok, Err}
use Rattle.terms.specs.declared.Verdict.{Verdict}
use Rattle.terms.specs.declared.Refusal.{Refusal}

-- example 14, on three processors: S / M is 5 1/3, and the list plan, an accepted one, ends at 5; so no earlier end could be promised
pub sure_end_reached : IsLongest long_last [] 3
    × ((plan : List Entry) × IsChecked long_last [] 3 plan (Ok (sure_end (bound (total_work long_last) 3 3) 3)))
sure_end_reached =
    let figures = examples.fourteen.0 in
    let listed = examples.fourteen.1 in
    (figures.path, (take 8 listed.0, rw (figures.work, figures.sum) (listed_checked long_last [] 3 (take 8 order_g) _ listed.0 _ listed.1)))

-- an answer to a question that is accepted
module _ (times : List ℕ) (arrows : List (List ℕ)) (M D : ℕ) (answer : Answer)
    (asked : Accepted (verdict_rows times arrows M D)) (is : IsAnswer times arrows M D answer) where
  processors : 1 ≤ M
  processors = (sound_verdict times arrows M D asked).1.low

  -- it says "fits" exactly where D is at least the sure end
  pub fits_exactly : SaysFits answer ↔ (sure_end answer.figures.s M ≤ D)
  unfolding IsOutcome IsVerdict
  fits_exactly = (there, back answer.outcome is)
    where
      there : SaysFits answer → sure_end answer.figures.s M ≤ D
      there (spare, e) = let h : IsOutcome times arrows M D answer.figures (Ok (Fits spare)) = rw e at is in h.2.0

      back : (o : Result Verdict Refusal) → IsOutcome times arrows M D answer.figures o → sure_end answer.figures.s M ≤ D → (spare : ℕ) × (o ≡ Ok (Fits spare))
      back (Ok (Fits spare)) h l = (spare, refl)
      back (Ok (Late shortfall)) h l = absurd (omega (arith, h.2.0))
      back (Err refusal) h l = absurd (not_both (verdict_rows times arrows M D) refusal asked h.0)

  -- where M × D is at least S, it does
  pub fits_at_least : answer.figures.s ≤ M * D → SaysFits answer
  fits_at_least l = fits_exactly.1 (sure_end_at_most answer.figures.s M D processors (omega (arith, processors)))

  -- where M × D is below S, it does at one deadline and no other: at the sure end
  pub fits_below : M * D < answer.figures.s → SaysFits answer ↔ (D ≡ sure_end answer.figures.s M)
  fits_below l = (
    λ f. omega (arith, fits_exactly.0 f, at_most_sure_end answer.figures.s M D processors (omega arith)),
    λ e. fits_exactly.1 (omega arith),
  )
