-- docs/PLANNER.md, "Terms": S, the sure end, the verdict and the load.
use Rattle.std.specs.Prelude.{◌≡◌, false, List, ℕ, ◌+◌, ◌-◌, ◌*◌, ◌/◌, ◌≤◌, ◌<◌, pos, Float}
use Rattle.std.specs.Float.{fin, binary32}
use Rattle.std.specs.Float.Ieee.{round}
use Rattle.terms.specs.Paths.{total_work, IsLongest}
use Rattle.terms.specs.declared.Verdict.{Verdict}
use Rattle.terms.specs.declared.Verdict.TheVariants.{Fits, Late}
use Rattle.terms.specs.declared.Figures.{Figures}

-- S = C + (M − 1) × P
unfoldable pub bound : ℕ → ℕ → ℕ → ℕ
bound C P M = C + (M - 1) * P

-- the sure end: S / M rounded down
unfoldable pub sure_end : ℕ → ℕ → ℕ
sure_end S M = S / M

-- "fits" when D is at least the sure end, and the spare is D less the sure end; otherwise "late", and the shortfall is the sure end less D
unfoldable pub IsVerdict : ℕ → ℕ → ℕ → Verdict → Type 0
IsVerdict S M D (Fits spare) = (sure_end S M ≤ D) × (spare ≡ D - sure_end S M)
IsVerdict S M D (Late shortfall) = (D < sure_end S M) × (shortfall ≡ sure_end S M - D)

-- the load: C divided by (M × D), the exact quotient rounded once to a 32-bit float
unfoldable pub load_of : ℕ → ℕ → ℕ → Float
load_of C M D = round binary32 false C (M * D)

-- C, P, S and the load of a graph on M processors with deadline D
pub record AreFigures (times : List ℕ) (arrows : List (List ℕ)) (M D : ℕ) (figures : Figures) : Type 0 where
  pub work : figures.c ≡ total_work times
  pub path : IsLongest times arrows figures.p
  pub sum : figures.s ≡ bound figures.c figures.p M
  pub load_is : figures.load ≡ load_of figures.c M D

-- all figures are 0, the load is 0
abbrev pub no_figures : Figures
no_figures = record { c = 0; p = 0; s = 0; load = fin false 0 (pos 0) }
