-- What one step along a line says of the line and of the lines after it.
use Rattle.std.specs.Prelude.{◌≡◌, List, [], ◌∷◌, true, false, ℕ, ◌≤◌, ◌<◌, length, drop}
use Rattle.terms.specs.Texts.{lines, proper, numbers}
use Rattle.text.specs.Rest.{line, later}
use Rattle.text.specs.declared.Next.{Next}
use Rattle.text.specs.declared.Next.TheVariants as next

-- the line at hand has no further field, and the next line begins at e
pub record Ended (text : List ℕ) (at e : ℕ) : Type 0 where
  pub sound : proper (line (drop at text)) ≡ true
  pub none : numbers (line (drop at text)) ≡ []
  pub next : later (drop at text) ≡ lines (drop e text)
  pub inside : e ≤ length text
  pub past : at ≤ e
  pub on : at < length text → at < e

-- the digits that stand next on the line at hand have the value v and are passed at e
pub record Passed (text : List ℕ) (at v e : ℕ) : Type 0 where
  pub sound : proper (line (drop at text)) ≡ proper (line (drop e text))
  -- where the rest of the line is well shaped, v is the number before its numbers
  pub some : proper (line (drop e text)) ≡ true → numbers (line (drop at text)) ≡ v ∷ numbers (line (drop e text))
  pub next : later (drop at text) ≡ later (drop e text)
  pub inside : e ≤ length text
  pub on : at < e

abbrev pub Stands : List ℕ → ℕ → Next → Type 0
Stands text at (next.LineEnd e) = Ended text at e
Stands text at next.Misshapen = proper (line (drop at text)) ≡ false
Stands text at (next.Field v e) = Passed text at v e
