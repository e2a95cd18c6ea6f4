-- docs/PLANNER.md, "STG text": the lines of a text, the fields of a line, the number of a field.
use Rattle.std.specs.Prelude.{List, [], ◌∷◌, map, Bool, true, false, cond, not, ◌&&◌, ◌||◌, ℕ, suc, ◌+◌, ◌-◌, ◌*◌, eqb, leb, length}

-- whether all of a list pass a test
unfoldable pub all_pass {ℓ} : {A : Type ℓ} → (A → Bool) → List A → Bool
all_pass test [] = true
all_pass test (x ∷ xs) = test x && all_pass test xs

-- whether a list begins with a byte that passes a test
abbrev pub begins : (ℕ → Bool) → List ℕ → Bool
begins test [] = false
begins test (b ∷ bytes) = test b

-- a byte before the first of some pieces, or as a piece alone
abbrev pub onto : ℕ → List (List ℕ) → List (List ℕ)
onto b [] = (b ∷ []) ∷ []
onto b (piece ∷ pieces) = (b ∷ piece) ∷ pieces

-- LF
abbrev pub is_feed : ℕ → Bool
is_feed b = eqb b 10

-- CR right before LF
abbrev pub is_return : ℕ → List ℕ → Bool
is_return b after = eqb b 13 && begins is_feed after

-- a space or a tab
abbrev pub is_blank : ℕ → Bool
is_blank b = eqb b 32 || eqb b 9

abbrev pub is_digit : ℕ → Bool
is_digit b = leb 48 b && leb b 57

-- lines end in LF or CR LF; the last may lack its end
unfoldable pub lines : List ℕ → List (List ℕ)
lines [] = []
lines (b ∷ text) = cond (is_feed b) ([] ∷ lines text) (cond (is_return b text) (lines text) (onto b (lines text)))

-- fields are parted by one or more spaces or tabs, which may also lead or trail
unfoldable pub fields : List ℕ → List (List ℕ)
fields [] = []
fields (b ∷ line) =
    cond (is_blank b) (fields line) (cond (begins (λ x. not (is_blank x)) line) (onto b (fields line)) ((b ∷ []) ∷ fields line))

-- a field is 1 to 8 decimal digits
abbrev pub is_field : List ℕ → Bool
is_field word = leb 1 (length word) && (leb (length word) 8 && all_pass is_digit word)

-- the number of a field: its digits' value, after the value of those before them
unfoldable pub value_from : ℕ → List ℕ → ℕ
value_from value [] = value
value_from value (b ∷ digits) = value_from (value * 10 + (b - 48)) digits

abbrev pub value : List ℕ → ℕ
value word = value_from 0 word

-- a line is well shaped when each of its fields is one; these are its numbers
unfoldable pub proper : List ℕ → Bool
proper line = all_pass is_field (fields line)

unfoldable pub numbers : List ℕ → List ℕ
numbers line = map value (fields line)

-- ---- what stands at a place of a text, given the text from there on

-- whether a line ends where the text begins
abbrev pub ends_here : List ℕ → Bool
ends_here [] = false
ends_here (b ∷ text) = is_feed b || is_return b text

-- how many spaces and tabs lead
unfoldable pub blanks : List ℕ → ℕ
blanks [] = 0
blanks (b ∷ text) = cond (is_blank b) (suc (blanks text)) 0

-- the digits that lead: the field that stands here, none where no digit stands
unfoldable pub digits : List ℕ → List ℕ
digits [] = []
digits (b ∷ text) = cond (is_digit b) (b ∷ digits text) []
