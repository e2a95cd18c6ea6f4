-- The rest of the line at a place of a text, and the lines after it.
use Rattle.std.specs.Prelude.{List, [], ◌∷◌, cond, ℕ}
use Rattle.terms.specs.Texts.{is_feed, ends_here, lines}

unfoldable pub line : List ℕ → List ℕ
line [] = []
line (b ∷ text) = cond (ends_here (b ∷ text)) [] (b ∷ line text)

unfoldable pub later : List ℕ → List (List ℕ)
later [] = []
later (b ∷ text) = cond (is_feed b) (lines text) (later text)
