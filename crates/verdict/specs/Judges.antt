-- The step from C and P to the verdict.
use Rattle.std.specs.Prelude.{◌≡◌, ℕ, ◌≤◌, Ok}
use Rattle.terms.specs.Graphs.{Among}
use Rattle.terms.specs.Verdicts.{bound, load_of, IsVerdict}
use Rattle.terms.specs.declared.Answer.{Answer}
use Rattle.terms.specs.declared.Verdict.{Verdict}

-- C and P as measured of a graph that is accepted, on M processors with deadline D
pub record Askable (C P M D : ℕ) : Type 0 where
  pub work : Among 1 16776960 C
  pub path : P ≤ C
  pub processors : Among 1 16 M
  pub deadline : Among 1 1000000 D

-- the figures of C and P, and fits or late
pub record Judges (C P M D : ℕ) (answer : Answer) : Type 0 where
  pub figures_are : answer.figures ≡ record { c = C; p = P; s = bound C P M; load = load_of C M D }
  pub verdict : Verdict
  pub outcome_is : answer.outcome ≡ Ok verdict
  pub verdict_is : IsVerdict (bound C P M) M D verdict
