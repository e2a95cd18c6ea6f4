-- The rows of the table: there is one answer, rows asked one after the other answer as one, and a row is named by its number, not counted
-- from the top. Assumes nothing.
use Rattle.std.proofs.Common.{◌≡◌, refl, ap, ap₂, sym, ◌∙◌, inl, inr, Bool, true, false, List, [], ◌∷◌, ◌++◌, ℕ, arith, eqb}
use Rattle.std.proofs.Math.Logic.{by_cases}
use Rattle.std.proofs.Math.Decide.{dec_lt}
use Rattle.std.specs.Prelude.{cond}
use Rattle.terms.specs.Rows.{Smallest, Spot, nowhere, smallest, pair, IsAt, Row, row as plain, Accepted, Gives, RefusedBy, number_of, place_of, second_of}
use Rattle.terms.specs.declared.Refusal.{Refusal}
use Rattle.terms.proofs.Decisions.{Tells, gives}
use Rattle.terms.specs.declared.Refusal.TheVariants.{SubtaskCount, TimeZero, ArrowCount, ArrowOutside, ArrowToItself, ArrowTwice, Cycle, ProcessorCount, Deadline, Order, Room, PlanLength, ProcessorOutside, StartLarge, StartEarly, Overlap, Idle, TextLength, FirstLine, TaskLine, DummyLine, TimeLarge, JoinedSubtasks, JoinedArrows, Nest}

-- ---- a refusal is its three numbers

-- the refusal of three numbers
abbrev made_of : ℕ → ℕ → ℕ → Refusal
made_of k p q =
    cond (eqb k 1) SubtaskCount
    (cond (eqb k 2) (TimeZero p)
    (cond (eqb k 3) ArrowCount
    (cond (eqb k 4) (ArrowOutside p)
    (cond (eqb k 5) (ArrowToItself p)
    (cond (eqb k 6) (ArrowTwice p)
    (cond (eqb k 7) (Cycle p)
    (cond (eqb k 8) ProcessorCount
    (cond (eqb k 9) Deadline
    (cond (eqb k 10) Order
    (cond (eqb k 11) Room
    (cond (eqb k 12) PlanLength
    (cond (eqb k 13) (ProcessorOutside p)
    (cond (eqb k 14) (StartLarge p)
    (cond (eqb k 15) (StartEarly p)
    (cond (eqb k 16) (Overlap p q)
    (cond (eqb k 17) (Idle p)
    (cond (eqb k 20) TextLength
    (cond (eqb k 21) FirstLine
    (cond (eqb k 22) TaskLine
    (cond (eqb k 23) DummyLine
    (cond (eqb k 24) TimeLarge
    (cond (eqb k 30) JoinedSubtasks
    (cond (eqb k 31) JoinedArrows
    Nest)))))))))))))))))))))))

made_again : (a : Refusal) → made_of (number_of a) (place_of a) (second_of a) ≡ a
made_again SubtaskCount = refl
made_again (TimeZero p) = refl
made_again ArrowCount = refl
made_again (ArrowOutside p) = refl
made_again (ArrowToItself p) = refl
made_again (ArrowTwice p) = refl
made_again (Cycle p) = refl
made_again ProcessorCount = refl
made_again Deadline = refl
made_again Order = refl
made_again Room = refl
made_again PlanLength = refl
made_again (ProcessorOutside p) = refl
made_again (StartLarge p) = refl
made_again (StartEarly p) = refl
made_again (Overlap p q) = refl
made_again (Idle p) = refl
made_again TextLength = refl
made_again FirstLine = refl
made_again TaskLine = refl
made_again DummyLine = refl
made_again TimeLarge = refl
made_again JoinedSubtasks = refl
made_again JoinedArrows = refl
made_again Nest = refl

same_refusal : (a b : Refusal) → number_of a ≡ number_of b → place_of a ≡ place_of b → second_of a ≡ second_of b → a ≡ b
same_refusal a b number place second =
    sym (made_again a)
    ∙ ap (λ (k : ℕ). made_of k (place_of a) (second_of a)) number
    ∙ ap₂ (λ (p q : ℕ). made_of (number_of b) p q) place second
    ∙ made_again b

-- ---- one answer

pub one_smallest : {IsSo : ℕ → Type 0} {x y : ℕ} → Smallest IsSo x → Smallest IsSo y → x ≡ y
one_smallest {IsSo} {x} {y} s t = by_cases (dec_lt x y) (λ l. absurd (t.least x l s.is_so))
    (λ l. by_cases (dec_lt y x) (λ m. absurd (s.least y m t.is_so)) (λ m. omega arith))

-- no second place, and no second number with it
one_spot : (spot : Spot) (p q p' q' : ℕ) → IsAt spot p q → IsAt spot p' q' → (p ≡ p') × (q ≡ q')
unfolding IsAt
one_spot nowhere p q p' q' (a, b) (c, d) = (a ∙ sym c, b ∙ sym d)
one_spot (smallest IsSo) p q p' q' (a, b) (c, d) = (one_smallest a c, b ∙ sym d)
one_spot (pair AreSo) p q p' q' (a, b) (c, d) = let e = one_smallest a c in (e, one_smallest b (rw (← e) at d))

one_given : (row : Row) (a b : Refusal) → Gives row a → Gives row b → a ≡ b
one_given row a b g h =
    let spot = one_spot row.spot (place_of a) (second_of a) (place_of b) (second_of b) g.spot_is h.spot_is in
    same_refusal a b (g.number_is ∙ sym h.number_is) spot.0 spot.1

-- no second refusal
pub one_refusal : (rows : List Row) (a b : Refusal) → RefusedBy rows a → RefusedBy rows b → a ≡ b
unfolding RefusedBy
one_refusal [] a b x y = absurd x
one_refusal (row ∷ rows) a b (inl g) (inl h) = one_given row a b g h
one_refusal (row ∷ rows) a b (inl g) (inr (n, y)) = absurd (n g.holds)
one_refusal (row ∷ rows) a b (inr (n, x)) (inl h) = absurd (n h.holds)
one_refusal (row ∷ rows) a b (inr (n, x)) (inr (m, y)) = one_refusal rows a b x y

-- rows that accept do not refuse
pub not_both : {B : Type 0} (rows : List Row) (a : Refusal) → Accepted rows → RefusedBy rows a → B
unfolding Accepted RefusedBy
not_both [] a x y = absurd y
not_both (row ∷ rows) a (n, x) (inl g) = absurd (n g.holds)
not_both (row ∷ rows) a (n, x) (inr (m, y)) = not_both rows a x y

-- ---- rows asked one after the other

-- a refusal by the first rows is the refusal of all
pub refused_first : (rows later : List Row) (a : Refusal) → RefusedBy rows a → RefusedBy (rows ++ later) a
unfolding RefusedBy
refused_first [] later a x = absurd x
refused_first (row ∷ rows) later a (inl g) = inl g
refused_first (row ∷ rows) later a (inr (n, x)) = inr (n, refused_first rows later a x)

-- where the first rows accept, the later ones refuse
pub refused_later : (rows later : List Row) (a : Refusal) → Accepted rows → RefusedBy later a → RefusedBy (rows ++ later) a
unfolding Accepted RefusedBy
refused_later [] later a x y = y
refused_later (row ∷ rows) later a (n, x) y = inr (n, refused_later rows later a x y)

-- and the other way round
pub refused_rest : (rows later : List Row) (a : Refusal) → Accepted rows → RefusedBy (rows ++ later) a → RefusedBy later a
unfolding Accepted RefusedBy
refused_rest [] later a x y = y
refused_rest (row ∷ rows) later a (n, x) (inl g) = absurd (n g.holds)
refused_rest (row ∷ rows) later a (n, x) (inr (m, y)) = refused_rest rows later a x y

-- all accept exactly where both do
pub accepted_join : (rows later : List Row) → Accepted rows → Accepted later → Accepted (rows ++ later)
unfolding Accepted
accepted_join [] later x y = y
accepted_join (row ∷ rows) later (n, x) y = (n, accepted_join rows later x y)

pub accepted_both : (rows later : List Row) → Accepted (rows ++ later) → Accepted rows × Accepted later
unfolding Accepted
accepted_both [] later x = (tt, x)
accepted_both (row ∷ rows) later (n, x) = let both = accepted_both rows later x in ((n, both.0), both.1)

-- the same first rows, and later ones that answer alike
pub refused_tail : (rows later later' : List Row) (a : Refusal) → (RefusedBy later a → RefusedBy later' a) → RefusedBy (rows ++ later) a
    → RefusedBy (rows ++ later') a
unfolding RefusedBy
refused_tail [] later later' a f x = f x
refused_tail (row ∷ rows) later later' a f (inl g) = inl g
refused_tail (row ∷ rows) later later' a f (inr (n, x)) = inr (n, refused_tail rows later later' a f x)

pub accepted_tail : (rows later later' : List Row) → (Accepted later → Accepted later') → Accepted (rows ++ later) → Accepted (rows ++ later')
accepted_tail rows later later' f x = let both = accepted_both rows later x in accepted_join rows later' both.0 (f both.1)

-- ---- test by test

-- none of the rows before the rest holds: what the rest answers, all answer
pub record Passed (rows rest : List Row) : Type 0 where
  pub accepts : Accepted rest → Accepted rows
  pub refuses : (a : Refusal) → RefusedBy rest a → RefusedBy rows a

pub begin : (rows : List Row) → Passed rows rows
begin rows = record { accepts = λ x. x; refuses = λ a x. x }

-- one more row does not hold
pub past : {rows rest : List Row} {row : Row} → Passed rows (row ∷ rest) → ¬ row.holds → Passed rows rest
unfolding Accepted RefusedBy
past p n = record { accepts = λ x. p.accepts (n, x); refuses = λ a x. p.refuses a (inr (n, x)) }

-- some more rows do not
pub past_all : {rows rest : List Row} (some : List Row) → Passed rows (some ++ rest) → Accepted some → Passed rows rest
past_all {rest = rest} some p x = record {
  accepts = λ y. p.accepts (accepted_join some rest x y);
  refuses = λ a y. p.refuses a (refused_later some rest a x y);
}

-- the next row gives the refusal
pub stop_given : {rows rest : List Row} {row : Row} {a : Refusal} → Passed rows (row ∷ rest) → Gives row a → RefusedBy rows a
unfolding RefusedBy
stop_given p g = p.refuses _ (inl g)

-- the next row holds, at this place
pub stop_at : {rows rest : List Row} {row : Row} {place second : ℕ} {a : Refusal} → Passed rows (row ∷ rest) → row.holds → IsAt row.spot place second
    → Tells a row.number place second → RefusedBy rows a
stop_at p h s tells = stop_given p (gives _ h s tells)

-- the next row, which has no place, holds
pub stop : {rows rest : List Row} {k : ℕ} {C : Type 0} {a : Refusal} → Passed rows (plain k C ∷ rest) → C → Tells a k 0 0 → RefusedBy rows a
unfolding IsAt
stop p h tells = stop_at p h (refl, refl) tells

-- there is none left
pub done : {rows : List Row} → Passed rows [] → Accepted rows
unfolding Accepted
done p = p.accepts tt

-- ---- a row by its number

abbrev choose : Bool → List Row → List Row → List Row
choose true a b = a
choose false a b = b

-- the rows from number k on
unfoldable pub from : ℕ → List Row → List Row
from k [] = []
from k (row ∷ rows) = choose (eqb row.number k) (row ∷ rows) (from k rows)

-- none of the rows before number k holds
abbrev pub Before : ℕ → List Row → Type 0
Before k rows = Passed rows (from k rows)

abbrev either : Bool → Type 0 → Type 0 → Type 0
either true A B = A
either false A B = B

-- the condition of the first row with number k
unfoldable pub holds_of : ℕ → List Row → Type 0
holds_of k [] = ⊥
holds_of k (row ∷ rows) = either (eqb row.number k) row.holds (holds_of k rows)

-- in rows that accept, the row with number k does not hold
pub none_holds : (k : ℕ) (rows : List Row) → Accepted rows → ¬ holds_of k rows
unfolding Accepted holds_of
none_holds k [] x h = h
none_holds k (row ∷ rows) (n, x) h = go (none_holds k rows x) (eqb row.number k) h
  where
    go : ¬ holds_of k rows → (b : Bool) → either b row.holds (holds_of k rows) → ⊥
    go rest true h = n h
    go rest false h = rest h
