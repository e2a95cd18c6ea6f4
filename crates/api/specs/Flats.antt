-- The replies of docs/PLANNER.md as flat records: each begins with the refusal, whose numbers are 0 with success; with a refusal every other
-- field is 0.
use Rattle.std.specs.Prelude.{◌≡◌, false, ℕ, ◌≤◌, pos, Result, Ok, Err}
use Rattle.std.specs.Float.{fin}
use Rattle.terms.specs.Rows.{number_of, place_of, second_of}
use Rattle.terms.specs.declared.Figures.{Figures}
use Rattle.terms.specs.declared.Verdict.TheVariants as verdict
use Rattle.terms.specs.declared.Answer.{Answer}
use Rattle.terms.specs.declared.Refusal.{Refusal}
use Rattle.api.specs.declared.FlatRefusal.{FlatRefusal}
use Rattle.api.specs.declared.FlatAmount.{FlatAmount}
use Rattle.api.specs.declared.FlatMeasure.{FlatMeasure}
use Rattle.api.specs.declared.FlatAnswer.{FlatAnswer}
use Rattle.api.specs.declared.FlatEnd.{FlatEnd}
use Rattle.api.specs.declared.FlatCounts.{FlatCounts}
use Rattle.api.specs.declared.FlatWritten.{FlatWritten}
use Rattle.terms.specs.declared.Weights.{Weights}
use Rattle.terms.specs.declared.Verdict.{Verdict}
use Rattle.terms.specs.declared.GraphSize.{GraphSize}

-- r is the flat form of a reply that is as stated
pub record Flattens {A B : Type 0} (Is : A → Type 0) (flat : A → B) (r : B) : Type 0 where
  pub reply : A
  pub is : Is reply
  pub same : r ≡ flat reply

abbrev pub flat_success : FlatRefusal
flat_success = record { number = 0; place = 0; second = 0 }

abbrev pub flat_refusal : Refusal → FlatRefusal
flat_refusal refusal = record { number = number_of refusal; place = place_of refusal; second = second_of refusal }

abbrev pub flat_amount : Result ℕ Refusal → FlatAmount
flat_amount (Ok value) = record { refusal = flat_success; value = value }
flat_amount (Err refusal) = record { refusal = flat_refusal refusal; value = 0 }

abbrev pub flat_measure : Result Weights Refusal → FlatMeasure
flat_measure (Ok weights) = record { refusal = flat_success; c = weights.c; p = weights.p }
flat_measure (Err refusal) = record { refusal = flat_refusal refusal; c = 0; p = 0 }

-- fits 1: the margin is the spare; fits 0: it is the shortfall
abbrev pub flat_judged : Figures → ℕ → ℕ → FlatAnswer
flat_judged figures fits margin =
    record { refusal = flat_success; c = figures.c; p = figures.p; s = figures.s; load = figures.load; fits = fits; margin = margin }

abbrev pub flat_outcome : Figures → Result Verdict Refusal → FlatAnswer
flat_outcome figures (Ok (verdict.Fits spare)) = flat_judged figures 1 spare
flat_outcome figures (Ok (verdict.Late shortfall)) = flat_judged figures 0 shortfall
flat_outcome figures (Err refusal) =
    record { refusal = flat_refusal refusal; c = 0; p = 0; s = 0; load = fin false 0 (pos 0); fits = 0; margin = 0 }

abbrev pub flat_answer : Answer → FlatAnswer
flat_answer answer = flat_outcome answer.figures answer.outcome

abbrev pub flat_end : Result ℕ Refusal → FlatEnd
flat_end (Ok end) = record { refusal = flat_success; end = end }
flat_end (Err refusal) = record { refusal = flat_refusal refusal; end = 0 }

abbrev pub flat_counts : Result GraphSize Refusal → FlatCounts
flat_counts (Ok size) = record { refusal = flat_success; subtasks = size.subtasks; arrows = size.arrows }
flat_counts (Err refusal) = record { refusal = flat_refusal refusal; subtasks = 0; arrows = 0 }

-- counts of a graph that is accepted; both have room in 32 bits
abbrev pub InRange : Result GraphSize Refusal → Type 0
InRange (Ok size) = (size.subtasks ≤ 256) × (size.arrows ≤ 2048)
InRange (Err refusal) = Unit {0}

abbrev pub flat_written : Result ℕ Refusal → FlatWritten
flat_written (Ok size) = record { refusal = flat_success; bytes = size }
flat_written (Err refusal) = record { refusal = flat_refusal refusal; bytes = 0 }

-- the length of a text that was written; it has room in 32 bits
abbrev pub IsShort : Result ℕ Refusal → Type 0
IsShort (Ok size) = size ≤ 12422
IsShort (Err refusal) = Unit {0}
