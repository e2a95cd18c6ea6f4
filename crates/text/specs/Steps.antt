-- What a reader who stands at a place of a text meets next. Each is a function of the text from there on, so a reply is fixed.
use Rattle.std.specs.Prelude.{List, [], ◌∷◌, cond, ℕ, suc, ◌+◌, eqb, leb, length, drop}
use Rattle.terms.specs.Texts.{is_feed, ends_here, value, blanks, digits}
use Rattle.text.specs.declared.Next.{Next}
use Rattle.text.specs.declared.Next.TheVariants as next

-- how many bytes the line has from here on, its LF among them
unfoldable pub line_size : List ℕ → ℕ
line_size [] = 0
line_size (b ∷ text) = cond (is_feed b) 1 (suc (line_size text))

-- what stands at a place where no digit, no space and no tab is, given the text from there on: a line's end, or a piece that is no field
abbrev pub no_number : ℕ → List ℕ → Next
no_number place [] = next.LineEnd place
no_number place (b ∷ text) = cond (ends_here (b ∷ text)) (next.LineEnd (place + line_size (b ∷ text))) next.Misshapen

-- what stands at a place where no space and no tab is: 1 to 8 digits are a number
abbrev pub next_at : ℕ → List ℕ → Next
next_at place text =
    cond (eqb (length (digits text)) 0) (no_number place text)
    (cond (leb (length (digits text)) 8) (next.Field (value (digits text)) (place + length (digits text))) next.Misshapen)

-- what stands next, spaces and tabs passed over
unfoldable pub next_number : ℕ → List ℕ → Next
next_number place text = next_at (place + blanks text) (drop (blanks text) text)
