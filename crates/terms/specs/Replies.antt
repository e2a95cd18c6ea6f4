-- docs/PLANNER.md, "Replies": what each call answers and leaves in its lent row, for every input. Each is told case by case of the reply.
use Rattle.std.specs.Prelude.{◌≡◌, List, ◌++◌, ℕ, suc, length, take, drop, Result, Ok, Err}
use Rattle.terms.specs.Rows.{Row, Accepted, RefusedBy}
use Rattle.terms.specs.Paths.{total_work, IsLongest}
use Rattle.terms.specs.Verdicts.{IsVerdict, AreFigures, no_figures}
use Rattle.terms.specs.Plans.{EndsAt}
use Rattle.terms.specs.ListRule.{IsListPlan}
use Rattle.terms.specs.Arrangements.{Arranged}
use Rattle.terms.specs.Writings.{stg_text}
use Rattle.terms.specs.Joins.{Graph, size, Way, joined}
use Rattle.terms.specs.Nests.{Nest, work_of, path_of, IsNest}
use Rattle.terms.specs.Refusals.{graph_rows, verdict_rows, list_rows, check_rows, arrange_rows, write_rows, join_rows, nest_rows}
use Rattle.terms.specs.declared.Figures.{Figures}
use Rattle.terms.specs.declared.Answer.{Answer}
use Rattle.terms.specs.declared.Entry.{Entry}
use Rattle.terms.specs.declared.Weights.{Weights}
use Rattle.terms.specs.declared.Verdict.{Verdict}
use Rattle.terms.specs.declared.GraphSize.{GraphSize}
use Rattle.terms.specs.declared.Refusal.{Refusal}

-- whether these rows accept, or by which they refuse
unfoldable pub IsCheck : List Row → Result (Unit {0}) Refusal → Type 0
IsCheck rows (Ok tt) = Accepted rows
IsCheck rows (Err refusal) = RefusedBy rows refusal

-- C and P together, of a graph that these rows accept
unfoldable pub IsMeasure : List Row → List ℕ → List (List ℕ) → Result Weights Refusal → Type 0
IsMeasure rows times arrows (Ok weights) = Accepted rows × (weights.c ≡ total_work times) × IsLongest times arrows weights.p
IsMeasure rows times arrows (Err refusal) = RefusedBy rows refusal

-- C asked for alone
unfoldable pub IsTotalWork : List ℕ → List (List ℕ) → Result ℕ Refusal → Type 0
IsTotalWork times arrows (Ok C) = Accepted (graph_rows times arrows) × (C ≡ total_work times)
IsTotalWork times arrows (Err refusal) = RefusedBy (graph_rows times arrows) refusal

-- P asked for alone
unfoldable pub IsLongestPath : List ℕ → List (List ℕ) → Result ℕ Refusal → Type 0
IsLongestPath times arrows (Ok P) = Accepted (graph_rows times arrows) × IsLongest times arrows P
IsLongestPath times arrows (Err refusal) = RefusedBy (graph_rows times arrows) refusal

-- the verdict: the figures with fits or late; with a refusal all figures are 0, the load is 0 and no verdict is given
unfoldable pub IsOutcome : List ℕ → List (List ℕ) → ℕ → ℕ → Figures → Result Verdict Refusal → Type 0
IsOutcome times arrows M D figures (Ok verdict) =
    Accepted (verdict_rows times arrows M D) × AreFigures times arrows M D figures × IsVerdict figures.s M D verdict
IsOutcome times arrows M D figures (Err refusal) = RefusedBy (verdict_rows times arrows M D) refusal × (figures ≡ no_figures)

abbrev pub IsAnswer : List ℕ → List (List ℕ) → ℕ → ℕ → Answer → Type 0
IsAnswer times arrows M D answer = IsOutcome times arrows M D answer.figures answer.outcome

-- the plan check
unfoldable pub IsChecked : List ℕ → List (List ℕ) → ℕ → List Entry → Result ℕ Refusal → Type 0
IsChecked times arrows M plan (Ok E) = Accepted (check_rows times arrows M plan) × EndsAt times plan E
IsChecked times arrows M plan (Err refusal) = RefusedBy (check_rows times arrows M plan) refusal

-- the list plan stands in entries 1..n, the entries past n keep their old contents, and the plan check of the first n replies the same end
pub record HoldsListPlan (times : List ℕ) (arrows : List (List ℕ)) (M : ℕ) (order : List ℕ) (before after : List Entry) (E : ℕ) : Type 0 where
  pub plan : IsListPlan times arrows order M (take (length times) after)
  pub past : drop (length times) after ≡ drop (length times) before
  pub checked : IsChecked times arrows M (take (length times) after) (Ok E)

-- the list plan, over the lent row as it was before and is after; with a refusal it stays as it was
unfoldable pub IsListed : List ℕ → List (List ℕ) → ℕ → List ℕ → List Entry → List Entry → Result ℕ Refusal → Type 0
IsListed times arrows M order before after (Ok E) =
    Accepted (list_rows times arrows M order (length before)) × HoldsListPlan times arrows M order before after E
IsListed times arrows M order before after (Err refusal) =
    RefusedBy (list_rows times arrows M order (length before)) refusal × (after ≡ before)

-- what an arrangement leaves in the two lent rows: n + 1 begins and as many numbers as there are arrows, and past them the old contents
pub record HoldsRows (wanted : ℕ → List ℕ) (n a : ℕ) (begins₀ numbers₀ begins numbers : List ℕ) : Type 0 where
  pub arranged : Arranged wanted n a begins numbers
  pub past_begins : drop (suc n) begins ≡ drop (suc n) begins₀
  pub past_numbers : drop a numbers ≡ drop a numbers₀
  pub same_begins : length begins ≡ length begins₀
  pub same_numbers : length numbers ≡ length numbers₀

-- the arrangement of the wanted rows, over the lent rows as they were before and are after; with a refusal they stay as they were
unfoldable pub IsArranged : (ℕ → List ℕ) → List ℕ → List (List ℕ) → List ℕ → List ℕ → List ℕ → List ℕ → Result (Unit {0}) Refusal → Type 0
IsArranged wanted times arrows begins₀ numbers₀ begins numbers (Ok tt) =
    Accepted (arrange_rows times arrows (length begins₀) (length numbers₀))
    × HoldsRows wanted (length times) (length arrows) begins₀ numbers₀ begins numbers
IsArranged wanted times arrows begins₀ numbers₀ begins numbers (Err refusal) =
    RefusedBy (arrange_rows times arrows (length begins₀) (length numbers₀)) refusal × (begins ≡ begins₀) × (numbers ≡ numbers₀)

-- the writer, over the lent room as it was before and is after: the text in front, and past it the old contents; with a refusal it stays as it was
unfoldable pub IsWritten : List ℕ → List (List ℕ) → List ℕ → List ℕ → Result ℕ Refusal → Type 0
IsWritten times arrows before after (Ok k) =
    Accepted (write_rows times arrows (length before)) × (k ≡ length (stg_text times arrows)) × (after ≡ stg_text times arrows ++ drop k before)
IsWritten times arrows before after (Err refusal) = RefusedBy (write_rows times arrows (length before)) refusal × (after ≡ before)

-- a join of a and b to g, over the lent rows as they were before and are after: g in front, and past it the old contents; with a refusal they
-- stay as they were
unfoldable pub IsJoined : Graph → Graph → Graph → List ℕ → List (List ℕ) → List ℕ → List (List ℕ) → Result GraphSize Refusal → Type 0
IsJoined a b g times₀ arrows₀ times arrows (Ok counted) =
    Accepted (join_rows a b g (length times₀) (length arrows₀))
    × (counted.subtasks ≡ size g)
    × (counted.arrows ≡ length g.arrows)
    × (times ≡ g.times ++ drop counted.subtasks times₀)
    × (arrows ≡ g.arrows ++ drop counted.arrows arrows₀)
IsJoined a b g times₀ arrows₀ times arrows (Err refusal) =
    RefusedBy (join_rows a b g (length times₀) (length arrows₀)) refusal × (times ≡ times₀) × (arrows ≡ arrows₀)

abbrev pub IsJoin : Way → Graph → Graph → List ℕ → List (List ℕ) → List ℕ → List (List ℕ) → Result GraphSize Refusal → Type 0
IsJoin way a b = IsJoined a b (joined way a b)

-- the figures of a nest, of the row that is its writing
unfoldable pub IsNestMeasure : List (List ℕ) → Result Weights Refusal → Type 0
IsNestMeasure row (Ok weights) = (nest : Nest) × IsNest row nest × (weights.c ≡ work_of nest) × (weights.p ≡ path_of nest)
IsNestMeasure row (Err refusal) = RefusedBy (nest_rows row) refusal
