-- The arrows of the joined graph, row by row: those out of the first's subtasks, where one without successors has those that are added; then the
-- second's, sorted and moved up. And how many there are. Assumes nothing.
use Rattle.std.proofs.Common.{◌≡◌, refl, sym, ap, ap₂, ◌∙◌, Bool, true, false, cond, ◌&&◌, List, [], ◌∷◌, ◌++◌, map, append-nil, ℕ, zero, suc, ◌+◌, ◌*◌, ◌≤◌, add-mul, one-mul, arith, length, length-append}
use Rattle.std.proofs.lemmas.Bool.{false≢true}
use mathlib.Core.List.{map-map}
use Rattle.std.proofs.lemmas.List.{map-append, length-map}
use Rattle.terms.specs.Graphs.{Among, Precedes}
use Rattle.terms.specs.Arrangements.{has_arrow, passing, predecessors_of, successors_of, is_none, lasts_of, firsts_of, for_each, out_of, sorted_by_from}
use Rattle.terms.specs.Joins.{Graph, size, Way, end_to_end, side_by_side, moved, entered, all_arrows, joined}
use Rattle.theory.specs.Joined.{IsAccepted, Faultless, IsFirst, JoinedArrow, of_first, of_second, between, or_else}
use Rattle.theory.proofs.Ascending.{passing_same, passing_none, passing_add, each_same, each_add}
use Rattle.theory.proofs.SortedArrows.{same_bool, has_precedes, precedes_has, sorts_by_from}
use Rattle.theory.proofs.Faultless.{accepted_faultless, from_named, to_named}
use Rattle.theory.proofs.JoinedArrows.{none_last, none_first, last_none, first_none, all_joined, joined_all}

-- ---- those to which arrows are added, by a test

enters : Way → Graph → ℕ → Bool
enters end_to_end b j = is_none (predecessors_of (size b) b.arrows j)
enters side_by_side b j = false

entered_passing : (way : Way) (b : Graph) → entered way b ≡ passing (enters way b) (size b)
unfolding enters firsts_of
entered_passing end_to_end b = refl
entered_passing side_by_side b = sym (passing_none (size b))

enters_first : (way : Way) {b : Graph} → Faultless b → (j : ℕ) → Among 1 (size b) j → enters way b j ≡ true → (way ≡ end_to_end) × IsFirst b j
unfolding enters
enters_first end_to_end f j s e = (refl, none_first f j s e)
enters_first side_by_side f j s e = absurd (false≢true e)

first_enters : {b : Graph} {j : ℕ} → IsFirst b j → enters end_to_end b j ≡ true
unfolding enters
first_enters s = first_none s

both_true : (s t : Bool) → (s && t) ≡ true → (s ≡ true) × (t ≡ true)
both_true true true e = (refl, refl)
both_true true false e = absurd (false≢true e)
both_true false t e = absurd (false≢true e)

-- ---- the tests of the joined graph's arrows, from either graph to either

module _ (way : Way) {a b : Graph} (f : Faultless a) (g : Faultless b) where
  all : List (List ℕ)
  all = all_arrows (entered way b) a b

  -- an arrow to the first is one of the first
  to_first : (x y : ℕ) → y ≤ size a → has_arrow all x y ≡ has_arrow a.arrows x y
  unfolding all
  to_first x y l = same_bool _ _
      (λ h. precedes_has a.arrows x y (go (all_joined way f g x y (has_precedes all x y h))))
      (λ h. precedes_has all x y (joined_all way f g x y (of_first (has_precedes a.arrows x y h))))
    where
      go : JoinedArrow way a b x y → Precedes a.arrows x y
      go (of_first w) = w
      go (of_second i j w p q) = absurd (omega (arith, l, q, (to_named g w).low))
      go (between j e s t q) = absurd (omega (arith, l, q, t.is_subtask.low))

  -- none goes from the second to the first
  none_back : (v y : ℕ) → 1 ≤ v → has_arrow a.arrows (size a + v) y ≡ false
  none_back v y l = same_bool _ false
      (λ h. absurd (omega (arith, l, (from_named f (has_precedes a.arrows (size a + v) y h)).high))) (λ e. absurd (false≢true e))

  -- one from the first to the second is an added one
  between_them : (x j : ℕ) → Among 1 (size a) x → Among 1 (size b) j
      → has_arrow all x (size a + j) ≡ (is_none (successors_of (size a) a.arrows x) && enters way b j)
  unfolding all
  between_them x j r s = same_bool _ _ (λ h. there (all_joined way f g x (size a + j) (has_precedes all x (size a + j) h))) back
    where
      there : JoinedArrow way a b x (size a + j) → (is_none (successors_of (size a) a.arrows x) && enters way b j) ≡ true
      there (of_first w) = absurd (omega (arith, (to_named f w).high, s.low))
      there (of_second i k w p q) = absurd (omega (arith, p, (from_named g w).low, r.high))
      there (between k e u v q) = let d : j ≡ k = omega (arith, q) in rw (last_none u, e, d, first_enters v)

      back : (is_none (successors_of (size a) a.arrows x) && enters way b j) ≡ true → has_arrow all x (size a + j) ≡ true
      back h =
          let t = both_true _ _ h in
          let u = enters_first way g j s t.1 in
          precedes_has all x (size a + j) (joined_all way f g x (size a + j) (between j u.0 (none_last f x r t.0) u.1 refl))

  -- one within the second is one of the second
  within_second : (v j : ℕ) → 1 ≤ v → has_arrow all (size a + v) (size a + j) ≡ has_arrow b.arrows v j
  unfolding all
  within_second v j l = same_bool _ _
      (λ h. precedes_has b.arrows v j (go (all_joined way f g (size a + v) (size a + j) (has_precedes all (size a + v) (size a + j) h))))
      (λ h. precedes_has all (size a + v) (size a + j)
      (joined_all way f g (size a + v) (size a + j) (of_second v j (has_precedes b.arrows v j h) refl refl)))
    where
      go : JoinedArrow way a b (size a + v) (size a + j) → Precedes b.arrows v j
      go (of_first w) = absurd (omega (arith, l, (from_named f w).high))
      go (of_second i k w p q) = let d : i ≡ v = omega (arith, p) in let e : k ≡ j = omega (arith, q) in rw (d, e) at w
      go (between k e s t q) = absurd (omega (arith, l, s.is_subtask.high))

  -- ---- row by row

  first_row : (x : ℕ) → Among 1 (size a) x
      → successors_of (size a + size b) all x ≡ or_else (map (λ j. size a + j) (entered way b)) (successors_of (size a) a.arrows x)
  first_row x r =
      passing_add (λ i. has_arrow all x i) (size a) (size b)
      ∙ ap₂ (λ (l m : List ℕ). l ++ map (λ j. size a + j) m)
      (passing_same _ _ (size a) (λ i s. to_first x i s.high)) (passing_same _ _ (size b) (λ j s. between_them x j r s))
      ∙ or_else_lem (successors_of (size a) a.arrows x)
    where
      or_else_lem : (l : List ℕ) → l ++ map (λ j. size a + j) (passing (λ j. is_none l && enters way b j) (size b))
          ≡ or_else (map (λ j. size a + j) (entered way b)) l
      or_else_lem [] = ap (λ (l : List ℕ). map (λ j. size a + j) l) (sym (entered_passing way b))
      or_else_lem (x ∷ l) = ap (λ (m : List ℕ). (x ∷ l) ++ map (λ j. size a + j) m) (passing_none (size b)) ∙ append-nil (x ∷ l)

  second_row : (v : ℕ) → 1 ≤ v → successors_of (size a + size b) all (size a + v) ≡ map (λ j. size a + j) (successors_of (size b) b.arrows v)
  second_row v l =
      passing_add (λ i. has_arrow all (size a + v) i) (size a) (size b)
      ∙ ap₂ (λ (l m : List ℕ). l ++ map (λ j. size a + j) m)
      (passing_same _ _ (size a) (λ i s. to_first (size a + v) i s.high ∙ none_back v i l) ∙ passing_none (size a))
      (passing_same _ _ (size b) (λ j s. within_second v j l))

-- rows of numbers moved up, as arrows moved up
each_moved : (k : ℕ) (row : ℕ → List ℕ) (n : ℕ) → for_each (λ j. map (λ i. k + i) (row j)) (λ i j. out_of i (k + j)) n ≡ map (moved k) (for_each row out_of n)
unfolding for_each
each_moved k row zero = refl
each_moved k row (suc n) =
    ap₂ (λ (l m : List (List ℕ)). l ++ m) (each_moved k row n)
    (map-map (λ i. out_of i (k + suc n)) (λ i. k + i) (row (suc n)) ∙ sym (map-map (moved k) (λ i. out_of i (suc n)) (row (suc n))))
    ∙ sym (map-append (moved k) (for_each row out_of n) (map (λ i. out_of i (suc n)) (row (suc n))))

pub joined_rows : (way : Way) (a b : Graph) → IsAccepted a → IsAccepted b → (joined way a b).arrows
    ≡ for_each (λ v. or_else (map (λ j. size a + j) (entered way b)) (successors_of (size a) a.arrows v)) out_of (size a)
    ++ map (moved (size a)) (sorted_by_from (size b) b.arrows)
unfolding sorted_by_from all
joined_rows way a b p q =
    let f = accepted_faultless a p in
    let g = accepted_faultless b q in
    each_add (successors_of (size a + size b) (all way f g)) out_of (size a) (size b)
    ∙ ap₂ (λ (l m : List (List ℕ)). l ++ m)
    (each_same _ _ out_of (size a) (λ x r. first_row way f g x r))
    (each_same _ _ (λ i j. out_of i (size a + j)) (size b) (λ v r. second_row way f g v r.low)
    ∙ each_moved (size a) (successors_of (size b) b.arrows) (size b))

-- ---- how many

-- each row that has none is as long as what stands for it
else_length : (targets row : List ℕ) (v : ℕ) → length (or_else targets row) ≡ length row + length (cond (is_none row) (v ∷ []) []) * length targets
else_length targets [] v = omega (arith, one-mul (length targets))
else_length targets (x ∷ row) v = omega arith

each_else : (targets : List ℕ) (row : ℕ → List ℕ) (n : ℕ) → length (for_each (λ v. or_else targets (row v)) out_of n)
    ≡ length (for_each row out_of n) + length (passing (λ v. is_none (row v)) n) * length targets
unfolding for_each passing
each_else targets row zero = omega arith
each_else targets row (suc n) =
    let r = row (suc n) in
    let one = cond (is_none r) (suc n ∷ []) [] in
    let more = for_each (λ v. or_else targets (row v)) out_of n in
    let none = passing (λ v. is_none (row v)) n in
    let here : length (map (λ i. out_of i (suc n)) (or_else targets r)) ≡ length (or_else targets r) = length-map (or_else targets r) _ in
    let there : length (map (λ i. out_of i (suc n)) r) ≡ length r = length-map r _ in
    let all_of : length (none ++ one) * length targets ≡ length none * length targets + length one * length targets =
    ap (λ (k : ℕ). k * length targets) (length-append none one) ∙ add-mul (length none) (length one) (length targets) in
    omega (
      arith,
      each_else targets row n,
      else_length targets r (suc n),
      length-append more (map (λ i. out_of i (suc n)) (or_else targets r)),
      length-append (for_each row out_of n) (map (λ i. out_of i (suc n)) r),
    )

pub joined_many : (way : Way) (a b : Graph) → IsAccepted a → IsAccepted b → length (joined way a b).arrows
    ≡ length a.arrows + length b.arrows + length (lasts_of (size a) a.arrows) * length (entered way b)
unfolding lasts_of sorted_by_from
joined_many way a b p q =
    let targets = map (λ j. size a + j) (entered way b) in
    let first = for_each (λ v. or_else targets (successors_of (size a) a.arrows v)) out_of (size a) in
    let second = map (moved (size a)) (sorted_by_from (size b) b.arrows) in
    let whole : length (joined way a b).arrows ≡ length first + length second = ap length (joined_rows way a b p q) ∙ length-append first second in
    let lasts = length (lasts_of (size a) a.arrows) in
    let added : lasts * length targets ≡ lasts * length (entered way b) = ap (λ (k : ℕ). lasts * k) (length-map (entered way b) _) in
    omega (
      arith,
      whole,
      each_else targets (successors_of (size a) a.arrows) (size a),
      added,
      length-map (sorted_by_from (size b) b.arrows) (moved (size a)),
      (sorts_by_from a.times a.arrows p).as_many,
      (sorts_by_from b.times b.arrows q).as_many,
    )
