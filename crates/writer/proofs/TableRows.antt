-- The row of a subtask is a part of the table of numbers. Assumes nothing.
use Rattle.std.proofs.Common.{◌≡◌, sym, ap₂, ◌∙◌, List, ℕ, ◌-◌, ◌≤◌, arith, length, get_or, take, drop, length-drop, length-take-le}
use Rattle.terms.specs.Arrangements.{stretch, row_of}
use Rattle.theory.proofs.Ascending.{stretch_part}
use Rattle.writer.specs.Lines.{HasRow}

module _ {begins numbers : List ℕ} {j : ℕ} (has : HasRow begins numbers j) (from to : ℕ) (eb : from ≡ get_or begins (j - 1) 0) (ee : to ≡ get_or begins j 0) where
  pub row_rises : from ≤ to
  row_rises = omega (arith, eb, ee, has.rises)

  pub row_inside : to ≤ length numbers
  row_inside = omega (arith, ee, has.inside)

  pub row_part : (take (to - from) (drop from numbers) ≡ row_of begins numbers j) × (length (take (to - from) (drop from numbers)) ≤ length numbers)
  unfolding row_of
  row_part = (
    sym (ap₂ (λ (f t : ℕ). stretch numbers f (t - f)) (sym eb) (sym ee) ∙ stretch_part numbers from (to - from) (omega (arith, row_rises, row_inside))),
    omega (arith, length-take-le (to - from) (drop from numbers) (omega (arith, length-drop from numbers, row_inside)), row_inside),
  )
