-- A number where a line must have one, and its end where it must end.
use Rattle.std.specs.Prelude.{◌≡◌, List, [], true, ℕ, ◌≤◌, length, drop, Option, Some, None}
use Rattle.terms.specs.Texts.{proper, numbers}
use Rattle.text.specs.Rest.{line}
use Rattle.text.specs.Standing.{Ended, Passed}

-- the line at hand has no number; it has one. Both only where it is well shaped
abbrev pub NoNumber : List ℕ → ℕ → Type 0
NoNumber text at = proper (line (drop at text)) ≡ true → numbers (line (drop at text)) ≡ []

abbrev pub SomeNumber : List ℕ → ℕ → Type 0
SomeNumber text at = proper (line (drop at text)) ≡ true → 1 ≤ length (numbers (line (drop at text)))

-- the number that stands next, and the place behind it
abbrev pub NumberOf : List ℕ → ℕ → Option (ℕ × ℕ) → Type 0
NumberOf text at None = NoNumber text at
NumberOf text at (Some number) = Passed text at number.0 number.1

-- where the next line begins, if the line at hand has no further number
abbrev pub LineEndOf : List ℕ → ℕ → Option ℕ → Type 0
LineEndOf text at None = SomeNumber text at
LineEndOf text at (Some e) = Ended text at e
