-- The rest of a line, its fields and the lines after it, from a place of a text on. Assumes nothing.
use Rattle.std.proofs.Common.{ℕ, suc, ◌+◌, ◌≤◌, ◌<◌, ◌≡◌, refl, sym, ◌∙◌, ap, List, [], ◌∷◌, ◌++◌, Bool, true, false, cond, not, ◌&&◌, ◌||◌, arith, ◌⊎◌}
use Rattle.std.proofs.Common.{inl, inr, length, drop, get_or, drop-cons, eqb, leb, eqb-true, ne_eqb}
use Rattle.std.proofs.Math.Bool.{and-false}
use Rattle.std.proofs.lemmas.Bool.{not-true}
use Rattle.terms.specs.Texts.{all_pass, is_blank, is_digit, is_feed, is_return, begins, onto, lines, fields, is_field, proper, numbers, ends_here, blanks, digits}
use Rattle.text.proofs.Digits.{false_true, both, digit_bounds}
use Rattle.text.specs.Steps.{line_size}
use Rattle.text.specs.Rest.{line, later}

abbrev is_inner : ℕ → Bool
is_inner b = not (is_blank b)

-- ---- tests of one byte

neither : (s t : Bool) → (s || t) ≡ false → (s ≡ false) × (t ≡ false)
neither false t e = (refl, e)
neither true t e = false_true (sym e)

either : (s t : Bool) → (s || t) ≡ true → (P : Type 0) → (s ≡ true → P) → (t ≡ true → P) → P
either true t e P f g = f refl
either false t e P f g = g e

-- a blank ends no line
blank_plain : (b : ℕ) → is_blank b ≡ true → (b ≡ 10 → ⊥) × (b ≡ 13 → ⊥)
blank_plain b e =
    either (eqb b 32) (eqb b 9) e ((b ≡ 10 → ⊥) × (b ≡ 13 → ⊥))
    (λ f. let h = eqb-true b 32 f in (λ g. omega arith, λ g. omega arith))
    (λ f. let h = eqb-true b 9 f in (λ g. omega arith, λ g. omega arith))

blank_inside : (b : ℕ) (s : List ℕ) → is_blank b ≡ true → ends_here (b ∷ s) ≡ false
blank_inside b s e = let h = blank_plain b e in rw (ne_eqb b 10 h.0, ne_eqb b 13 h.1)

blank_feed : (b : ℕ) → is_blank b ≡ true → is_feed b ≡ false
blank_feed b e = ne_eqb b 10 (blank_plain b e).0

inside_feed : (b : ℕ) (s : List ℕ) → ends_here (b ∷ s) ≡ false → is_feed b ≡ false
inside_feed b s e = (neither (is_feed b) (is_return b s) e).0

-- ---- the lines of a text: the rest of the first, and the others

line_on : (b : ℕ) (s : List ℕ) → ends_here (b ∷ s) ≡ false → line (b ∷ s) ≡ b ∷ line s
unfolding line
line_on b s e = rw e

later_on : (b : ℕ) (s : List ℕ) → ends_here (b ∷ s) ≡ false → later (b ∷ s) ≡ later s
unfolding later
later_on b s e = rw (inside_feed b s e)

lines_onto : (b : ℕ) (s : List ℕ) → ends_here (b ∷ s) ≡ false → lines (b ∷ s) ≡ onto b (lines s)
unfolding lines
lines_onto b s e = let x = neither (is_feed b) (is_return b s) e in rw (x.0, x.1)

begins_feed : (s : List ℕ) → begins is_feed s ≡ true → lines s ≡ [] ∷ later s
unfolding lines later
begins_feed [] e = false_true e
begins_feed (b ∷ s) e = rw e

whole_line : (b : ℕ) (s : List ℕ) → ends_here (b ∷ s) ≡ false → (lines s ≡ []) ⊎ (lines s ≡ line s ∷ later s) → (lines s ≡ [] → s ≡ [])
    → lines (b ∷ s) ≡ line (b ∷ s) ∷ later (b ∷ s)
unfolding line later
whole_line b s e (inl f) g = rw (lines_onto b s e, line_on b s e, later_on b s e, f, g f)
whole_line b s e (inr f) g = rw (lines_onto b s e, line_on b s e, later_on b s e, f)

split_line : (b : ℕ) (s : List ℕ) (t u : Bool) → is_feed b ≡ t → is_return b s ≡ u → (lines s ≡ []) ⊎ (lines s ≡ line s ∷ later s)
    → (lines s ≡ [] → s ≡ []) → lines (b ∷ s) ≡ line (b ∷ s) ∷ later (b ∷ s)
unfolding lines line later
split_line b s true u e f g h = rw e
split_line b s false true e f g h = rw (e, f) (begins_feed s (both (eqb b 13) (begins is_feed s) f).1)
split_line b s false false e f g h = whole_line b s (rw (e, f)) g h

not_none : (l : List ℕ) (ls m : List (List ℕ)) (s : List ℕ) → m ≡ l ∷ ls → m ≡ [] → s ≡ []
not_none l ls m s e f = let z : ◌≡◌ {A = ℕ} 0 1 = cc in absurd (omega arith)

-- the first line of a text, and the others
pub lines_cons : (b : ℕ) (s : List ℕ) → lines (b ∷ s) ≡ line (b ∷ s) ∷ later (b ∷ s)
unfolding lines
lines_cons b [] = split_line b [] (is_feed b) (is_return b []) refl refl (inl refl) (λ _. refl)
lines_cons b (d ∷ s) = split_line b (d ∷ s) (is_feed b) (is_return b (d ∷ s)) refl refl (inr (lines_cons d s)) (not_none _ _ _ _ (lines_cons d s))

-- ---- blanks before a field change nothing

after_blank : (b : ℕ) (s : List ℕ) (t : Bool) → is_blank b ≡ t → fields (line s) ≡ fields (line (drop (blanks s) s))
    → fields (line (b ∷ s)) ≡ fields (line (drop (blanks (b ∷ s)) (b ∷ s)))
unfolding blanks fields line
after_blank b s true e h = rw (blank_inside b s e, e) h
after_blank b s false e h = rw e

pub fields_blanks : (s : List ℕ) → fields (line s) ≡ fields (line (drop (blanks s) s))
unfolding blanks fields line
fields_blanks [] = refl
fields_blanks (b ∷ s) = after_blank b s (is_blank b) refl (fields_blanks s)

later_blank : (b : ℕ) (s : List ℕ) (t : Bool) → is_blank b ≡ t → later s ≡ later (drop (blanks s) s) → later (b ∷ s) ≡ later (drop (blanks (b ∷ s)) (b ∷ s))
unfolding blanks later
later_blank b s true e h = rw (e, blank_feed b e) h
later_blank b s false e h = rw e

pub later_blanks : (s : List ℕ) → later s ≡ later (drop (blanks s) s)
unfolding blanks
later_blanks [] = refl
later_blanks (b ∷ s) = later_blank b s (is_blank b) refl (later_blanks s)

no_blanks : (b : ℕ) (s : List ℕ) (t : Bool) → is_blank b ≡ t → blanks (drop (blanks s) s) ≡ 0 → blanks (drop (blanks (b ∷ s)) (b ∷ s)) ≡ 0
unfolding blanks
no_blanks b s true e h = rw e h
no_blanks b s false e h = rw e (rw e)

-- no blanks stand behind the blanks
pub blanks_none : (s : List ℕ) → blanks (drop (blanks s) s) ≡ 0
unfolding blanks
blanks_none [] = refl
blanks_none (b ∷ s) = no_blanks b s (is_blank b) refl (blanks_none s)

-- ---- a run of digits, and the line behind it

digit_plain : (b : ℕ) (s : List ℕ) → is_digit b ≡ true → (is_blank b ≡ false) × (ends_here (b ∷ s) ≡ false)
digit_plain b s e =
    let h = digit_bounds b e in
    (rw (ne_eqb b 32 (λ g. omega arith), ne_eqb b 9 (λ g. omega arith)), rw (ne_eqb b 10 (λ g. omega arith), ne_eqb b 13 (λ g. omega arith)))

-- what is known of the digits that lead a text: they are digits, its line begins with them, and no digit stands behind them
pub record Run (s d rest : List ℕ) : Type 0 where
  pub all : all_pass is_digit d ≡ true
  pub split : line s ≡ d ++ line rest
  pub stop : begins is_digit (line rest) ≡ false
  pub next : later s ≡ later rest

no_digit : (b : ℕ) (s : List ℕ) (t : Bool) → ends_here (b ∷ s) ≡ t → is_digit b ≡ false → begins is_digit (line (b ∷ s)) ≡ false
unfolding line
no_digit b s true e f = rw e
no_digit b s false e f = rw (e, f)

digit_or_not : (b : ℕ) (s : List ℕ) (t : Bool) → is_digit b ≡ t → Run s (digits s) (drop (length (digits s)) s)
    → Run (b ∷ s) (digits (b ∷ s)) (drop (length (digits (b ∷ s))) (b ∷ s))
unfolding digits all_pass
digit_or_not b s true e h =
    let f = (digit_plain b s e).1 in
    rw e
    (record { all = rw e h.all; split = rw (line_on b s f) (ap (λ (l : List ℕ). b ∷ l) h.split); stop = h.stop; next = later_on b s f ∙ h.next })
digit_or_not b s false e h = rw e (record { all = refl; split = refl; stop = no_digit b s (ends_here (b ∷ s)) refl e; next = refl })

pub run : (s : List ℕ) → Run s (digits s) (drop (length (digits s)) s)
unfolding digits all_pass line
run [] = record { all = refl; split = refl; stop = refl; next = refl }
run (b ∷ s) = digit_or_not b s (is_digit b) refl (run s)

-- ---- a field, and the fields after it

fields_inner : (b : ℕ) (l : List ℕ) → is_blank b ≡ false → fields (b ∷ l) ≡ cond (begins is_inner l) (onto b (fields l)) ((b ∷ []) ∷ fields l)
unfolding fields
fields_inner b l e = rw e

-- a run of digits before no field's byte is a field
fields_run : (b : ℕ) (d l : List ℕ) → all_pass is_digit (b ∷ d) ≡ true → begins is_inner l ≡ false → fields ((b ∷ d) ++ l) ≡ (b ∷ d) ∷ fields l
unfolding all_pass
fields_run b [] l e f = let h = both (is_digit b) true e in rw (fields_inner b l (digit_plain b [] h.0).0, f)
fields_run b (c ∷ d) l e f =
    let h = both (is_digit b) (is_digit c && all_pass is_digit d) e in
    let k = both (is_digit c) (all_pass is_digit d) h.1 in
    rw (fields_inner b ((c ∷ d) ++ l) (digit_plain b [] h.0).0, (digit_plain c [] k.0).0, fields_run c d l h.1 f)

-- whether the first piece has another byte than digits
abbrev strays : List (List ℕ) → Bool
strays [] = false
strays (piece ∷ pieces) = not (all_pass is_digit piece)

strays_bad : (ws : List (List ℕ)) → strays ws ≡ true → all_pass is_field ws ≡ false
unfolding all_pass
strays_bad [] e = false_true e
strays_bad (w ∷ ws) e = rw (not-true (all_pass is_digit w) e, and-false (leb (length w) 8), and-false (leb 1 (length w)))

strays_first : (t : Bool) (x : ℕ) (ws : List (List ℕ)) → is_digit x ≡ false → strays (cond t (onto x ws) ((x ∷ []) ∷ ws)) ≡ true
unfolding all_pass
strays_first true x [] e = rw e
strays_first true x (w ∷ ws) e = rw e
strays_first false x ws e = rw e

strays_onto : (b : ℕ) (ws : List (List ℕ)) → strays ws ≡ true → strays (onto b ws) ≡ true
unfolding all_pass
strays_onto b [] e = false_true e
strays_onto b (w ∷ ws) e = rw (not-true (all_pass is_digit w) e, and-false (is_digit b))

begins_run : (d : List ℕ) (x : ℕ) (l : List ℕ) → all_pass is_digit d ≡ true → is_blank x ≡ false → begins is_inner (d ++ x ∷ l) ≡ true
unfolding all_pass
begins_run [] x l e f = rw f
begins_run (b ∷ d) x l e f = rw (digit_plain b [] (both (is_digit b) (all_pass is_digit d) e).0).0

strays_run : (d : List ℕ) (x : ℕ) (l : List ℕ) → all_pass is_digit d ≡ true → is_blank x ≡ false → is_digit x ≡ false → strays (fields (d ++ x ∷ l)) ≡ true
unfolding all_pass
strays_run [] x l e f g = rw (fields_inner x l f) (strays_first (begins is_inner l) x (fields l) g)
strays_run (b ∷ d) x l e f g =
    let h = both (is_digit b) (all_pass is_digit d) e in
    rw (fields_inner b (d ++ x ∷ l) (digit_plain b [] h.0).0, begins_run d x l h.1 f) (strays_onto b (fields (d ++ x ∷ l)) (strays_run d x l h.1 f g))

-- a byte that is neither digit nor blank spoils its line, whatever digits stand before it
stray : (d : List ℕ) (x : ℕ) (l : List ℕ) → all_pass is_digit d ≡ true → is_blank x ≡ false → is_digit x ≡ false → proper (d ++ x ∷ l) ≡ false
unfolding proper
stray d x l e f g = strays_bad (fields (d ++ x ∷ l)) (strays_run d x l e f g)

-- a run of digits is a field before those behind it, or the line is spoilt with it and without it
abbrev pub FieldOrSpoilt : List ℕ → List ℕ → Type 0
FieldOrSpoilt d l = (fields (d ++ l) ≡ d ∷ fields l) ⊎ ((proper (d ++ l) ≡ false) × (proper l ≡ false))

blank_or_not : (b : ℕ) (d : List ℕ) (x : ℕ) (l : List ℕ) (t : Bool) → is_blank x ≡ t → all_pass is_digit (b ∷ d) ≡ true → is_digit x ≡ false
    → FieldOrSpoilt (b ∷ d) (x ∷ l)
unfolding all_pass
blank_or_not b d x l true f e g = inl (fields_run b d (x ∷ l) e (rw f))
blank_or_not b d x l false f e g = inr (stray (b ∷ d) x l e f g, stray [] x l refl f g)

pub field_or_spoilt : (d l : List ℕ) → 1 ≤ length d → all_pass is_digit d ≡ true → begins is_digit l ≡ false → FieldOrSpoilt d l
field_or_spoilt [] l h e f = absurd (omega arith)
field_or_spoilt (b ∷ d) [] h e f = inl (fields_run b d [] e refl)
field_or_spoilt (b ∷ d) (x ∷ l) h e f = blank_or_not b d x l (is_blank x) refl e f

-- ---- where no digit stands

pub line_off : (b : ℕ) (s : List ℕ) → ends_here (b ∷ s) ≡ true → line (b ∷ s) ≡ []
unfolding line
line_off b s e = rw e

not_blank : (b : ℕ) (s : List ℕ) (t : Bool) → is_blank b ≡ t → blanks (b ∷ s) ≡ 0 → is_blank b ≡ false
unfolding blanks
not_blank b s true e h = let z : ◌≡◌ {A = ℕ} (suc (blanks s)) 0 = rw e at h in absurd (omega arith)
not_blank b s false e h = e

not_digit : (b : ℕ) (s : List ℕ) (t : Bool) → is_digit b ≡ t → digits (b ∷ s) ≡ [] → is_digit b ≡ false
unfolding digits
not_digit b s true e h = let z : ◌≡◌ {A = ℕ} (suc (length (digits s))) 0 = rw e at (ap length h) in absurd (omega arith)
not_digit b s false e h = e

-- where the line does not end and neither a blank nor a digit stands, the line is spoilt
pub spoilt : (b : ℕ) (s : List ℕ) → blanks (b ∷ s) ≡ 0 → digits (b ∷ s) ≡ [] → ends_here (b ∷ s) ≡ false → proper (line (b ∷ s)) ≡ false
unfolding all_pass
spoilt b s h k e = rw (line_on b s e) (stray [] b (line s) refl (not_blank b s (is_blank b) refl h) (not_digit b s (is_digit b) refl k))

pub fields_none : fields [] ≡ []
unfolding fields
fields_none = refl

pub proper_none : (l : List ℕ) → fields l ≡ [] → proper l ≡ true
unfolding proper all_pass
proper_none l e = rw e

pub numbers_none : (l : List ℕ) → fields l ≡ [] → numbers l ≡ []
unfolding numbers
numbers_none l e = rw e

-- ---- the line after

later_cons : (b : ℕ) (s : List ℕ) (t : Bool) → is_feed b ≡ t → later s ≡ lines (drop (line_size s) s) → later (b ∷ s) ≡ lines (drop (line_size (b ∷ s)) (b ∷ s))
unfolding later line_size
later_cons b s true e h = rw e
later_cons b s false e h = rw e h

-- the lines after the one at hand are those of the text behind it
pub later_size : (s : List ℕ) → later s ≡ lines (drop (line_size s) s)
unfolding later line_size lines
later_size [] = refl
later_size (b ∷ s) = later_cons b s (is_feed b) refl (later_size s)

some_size : (t : Bool) (n : ℕ) → 1 ≤ cond t 1 (suc n)
some_size true n = omega arith
some_size false n = omega arith

-- a line that has begun has a byte
pub size_on : (s : List ℕ) (i : ℕ) → i < length s → i < i + line_size (drop i s)
unfolding line_size
size_on s i h = rw (drop-cons s i 0 h) (omega (arith, some_size (is_feed (get_or s i 0)) (line_size (drop (suc i) s))))
