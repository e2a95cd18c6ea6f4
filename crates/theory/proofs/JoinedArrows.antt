-- The joined graph has the arrows of the first, those of the second and those that are added, and no others; they are sorted, and none stands
-- twice. Assumes nothing.
use Rattle.std.proofs.Common.{◌≡◌, refl, sym, ap, ◌∙◌, ◌⊎◌, ◌↔◌, inl, inr, ⊎_elim, true, List, [], ◌∷◌, ◌++◌, map, ℕ, ◌+◌, ◌-◌, ◌<◌, arith, length, get_or, length-append, get_or-append-add}
use Rattle.std.proofs.Math.Logic.{by_cases}
use Rattle.std.proofs.Math.Decide.{dec_le}
use Rattle.std.proofs.Math.ListN.{get_or-append}
use Rattle.terms.specs.Graphs.{Among, IsSubtask, time_of, from_of, to_of, Precedes}
use Rattle.terms.specs.Refusals.{Repeats}
use Rattle.terms.specs.Arrangements.{has_arrow, is_none, predecessors_of, successors_of, lasts_of, firsts_of}
use Rattle.terms.specs.Joins.{Graph, size, Way, end_to_end, side_by_side, moved, entered, each_to_each, all_arrows, joined}
use Rattle.theory.specs.Joined.{IsAccepted, Faultless, IsLast, IsFirst, JoinedArrow, of_first, of_second, between}
use Rattle.theory.proofs.Ascending.{Has, has_append, has_left, has_right, has_at, at_has, has_map, map_has}
use Rattle.theory.proofs.Ascending.{passing_has, has_passing, none_passes, passes_none}
use Rattle.theory.proofs.SortedArrows.{has_precedes, precedes_has, same_from, rises_from, once_from}
use Rattle.theory.proofs.Faultless.{accepted_faultless, from_named, to_named}

-- ---- the arrows of rows put together, moved and made

-- an arrow of a row by its ends
arrow_in : (arrows : List (List ℕ)) (x y : ℕ) → Precedes arrows x y → (e : List ℕ) × Has arrows e × (get_or e 0 0 ≡ x) × (get_or e 1 0 ≡ y)
unfolding from_of to_of
arrow_in arrows x y w = (get_or arrows w.place [], at_has arrows [] w.place w.inside, w.begins, w.arrives)

in_arrow : (arrows : List (List ℕ)) (x y : ℕ) (e : List ℕ) → Has arrows e → get_or e 0 0 ≡ x → get_or e 1 0 ≡ y → Precedes arrows x y
unfolding from_of to_of
in_arrow arrows x y e h p q =
    let r = has_at arrows [] e h in
    record { place = r.0; inside = r.1; begins = ap (λ (l : List ℕ). get_or l 0 0) r.2 ∙ p; arrives = ap (λ (l : List ℕ). get_or l 1 0) r.2 ∙ q }

module _ (l m : List (List ℕ)) (x y : ℕ) where
  precedes_append : Precedes (l ++ m) x y → Precedes l x y ⊎ Precedes m x y
  precedes_append w =
      let r = arrow_in (l ++ m) x y w in
      ⊎_elim (λ h. inl (in_arrow l x y r.0 h r.2 r.3)) (λ h. inr (in_arrow m x y r.0 h r.2 r.3)) (has_append l m r.0 r.1)

  precedes_left : Precedes l x y → Precedes (l ++ m) x y
  precedes_left w = let r = arrow_in l x y w in in_arrow (l ++ m) x y r.0 (has_left l m r.0 r.1) r.2 r.3

  precedes_right : Precedes m x y → Precedes (l ++ m) x y
  precedes_right w = let r = arrow_in m x y w in in_arrow (l ++ m) x y r.0 (has_right l m r.0 r.1) r.2 r.3

module _ (k : ℕ) (arrows : List (List ℕ)) where
  precedes_moved : (x y : ℕ) → Precedes (map (moved k) arrows) x y → (i : ℕ) × (j : ℕ) × Precedes arrows i j × (x ≡ k + i) × (y ≡ k + j)
  precedes_moved x y w =
      let r = arrow_in (map (moved k) arrows) x y w in
      let s = has_map (moved k) arrows r.0 r.1 in (
        get_or s.0 0 0,
        get_or s.0 1 0,
        in_arrow arrows _ _ s.0 s.1 refl refl,
        sym r.2 ∙ ap (λ (l : List ℕ). get_or l 0 0) s.2,
        sym r.3 ∙ ap (λ (l : List ℕ). get_or l 1 0) s.2,
      )

  moved_precedes : (i j : ℕ) → Precedes arrows i j → Precedes (map (moved k) arrows) (k + i) (k + j)
  moved_precedes i j w =
      let r = arrow_in arrows i j w in
      in_arrow (map (moved k) arrows) (k + i) (k + j) (moved k r.0) (map_has (moved k) arrows r.0 r.1)
      (ap (λ (x : ℕ). k + x) r.2) (ap (λ (x : ℕ). k + x) r.3)

has_each_to : (xs ys : List ℕ) (e : List ℕ) → Has (each_to_each xs ys) e → (x : ℕ) × (y : ℕ) × Has xs x × Has ys y × (e ≡ x ∷ y ∷ [])
unfolding each_to_each Has
has_each_to [] ys e h = absurd h
has_each_to (x ∷ xs) ys e h = ⊎_elim
    (λ z. let r = has_map (λ y. x ∷ y ∷ []) ys e z in (x, r.0, inl refl, r.1, r.2))
    (λ z. let r = has_each_to xs ys e z in (r.0, r.1, inr r.2, r.3, r.4))
    (has_append (map (λ y. x ∷ y ∷ []) ys) (each_to_each xs ys) e h)

each_to_has : (xs ys : List ℕ) (x y : ℕ) → Has xs x → Has ys y → Has (each_to_each xs ys) (x ∷ y ∷ [])
unfolding each_to_each Has
each_to_has [] ys x y h k = absurd h
each_to_has (z ∷ xs) ys x y (inl e) k = rw e (has_left (map (λ y. z ∷ y ∷ []) ys) _ _ (map_has (λ y. z ∷ y ∷ []) ys y k))
each_to_has (z ∷ xs) ys x y (inr h) k = has_right (map (λ y. z ∷ y ∷ []) ys) _ _ (each_to_has xs ys x y h k)

module _ (xs ys : List ℕ) (x y : ℕ) where
  precedes_each : Precedes (each_to_each xs ys) x y → Has xs x × Has ys y
  precedes_each w =
      let r = arrow_in (each_to_each xs ys) x y w in
      let s = has_each_to xs ys r.0 r.1 in
      let p : s.0 ≡ x = sym (ap (λ (l : List ℕ). get_or l 0 0) s.4) ∙ r.2 in
      let q : s.1 ≡ y = sym (ap (λ (l : List ℕ). get_or l 1 0) s.4) ∙ r.3 in
      (rw p at s.2, rw q at s.3)

  each_precedes : Has xs x → Has ys y → Precedes (each_to_each xs ys) x y
  each_precedes h k = in_arrow (each_to_each xs ys) x y (x ∷ y ∷ []) (each_to_has xs ys x y h k) refl refl

-- ---- those without successors and those without predecessors

module _ {g : Graph} (f : Faultless g) (i : ℕ) where
  pub none_last : IsSubtask g.times i → is_none (successors_of (size g) g.arrows i) ≡ true → IsLast g i
  none_last s e = record {
    is_subtask = s;
    without = λ j w. none_passes (λ j. has_arrow g.arrows i j) (size g) e j (to_named f w) (precedes_has g.arrows i j w);
  }

  pub none_first : IsSubtask g.times i → is_none (predecessors_of (size g) g.arrows i) ≡ true → IsFirst g i
  none_first s e = record {
    is_subtask = s;
    without = λ j w. none_passes (λ j. has_arrow g.arrows j i) (size g) e j (from_named f w) (precedes_has g.arrows j i w);
  }

  pub first_or : IsSubtask g.times i → IsFirst g i ⊎ ((j : ℕ) × Precedes g.arrows j i)
  unfolding Has
  first_or s = go (predecessors_of (size g) g.arrows i) refl
    where
      go : (l : List ℕ) → predecessors_of (size g) g.arrows i ≡ l → IsFirst g i ⊎ ((j : ℕ) × Precedes g.arrows j i)
      go [] e = inl (none_first s (ap is_none e))
      go (j ∷ l) e = inr (j, has_precedes g.arrows j i (passing_has (λ j. has_arrow g.arrows j i) (size g) j (rw e (inl refl))).1)

module _ {g : Graph} {i : ℕ} where
  pub last_none : IsLast g i → is_none (successors_of (size g) g.arrows i) ≡ true
  last_none s = passes_none (λ j. has_arrow g.arrows i j) (size g) (λ j h. s.without j (has_precedes g.arrows i j h))

  pub first_none : IsFirst g i → is_none (predecessors_of (size g) g.arrows i) ≡ true
  first_none s = passes_none (λ j. has_arrow g.arrows j i) (size g) (λ j h. s.without j (has_precedes g.arrows j i h))

has_last : {g : Graph} → Faultless g → (i : ℕ) → Has (lasts_of (size g) g.arrows) i → IsLast g i
unfolding lasts_of
has_last {g} f i h = let r = passing_has (λ i. is_none (successors_of (size g) g.arrows i)) (size g) i h in none_last f i r.0 r.1

last_has : {g : Graph} (i : ℕ) → IsLast g i → Has (lasts_of (size g) g.arrows) i
unfolding lasts_of
last_has {g} i s = has_passing (λ i. is_none (successors_of (size g) g.arrows i)) (size g) i s.is_subtask (last_none s)

-- arrows are added end to end only, to those without predecessors
has_entered : (way : Way) {g : Graph} → Faultless g → (j : ℕ) → Has (entered way g) j → (way ≡ end_to_end) × IsFirst g j
unfolding firsts_of Has
has_entered end_to_end {g} f j h = let r = passing_has (λ j. is_none (predecessors_of (size g) g.arrows j)) (size g) j h in (refl, none_first f j r.0 r.1)
has_entered side_by_side f j h = absurd h

entered_has : {g : Graph} (j : ℕ) → IsFirst g j → Has (entered end_to_end g) j
unfolding firsts_of
entered_has {g} j s = has_passing (λ j. is_none (predecessors_of (size g) g.arrows j)) (size g) j s.is_subtask (first_none s)

-- ---- all arrows

module _ (way : Way) {a b : Graph} (f : Faultless a) (g : Faultless b) (x y : ℕ) where
  pub all_joined : Precedes (all_arrows (entered way b) a b) x y → JoinedArrow way a b x y
  unfolding all_arrows
  all_joined w = ⊎_elim of_first (λ v. ⊎_elim second added (precedes_append _ _ x y v)) (precedes_append a.arrows _ x y w)
    where
      second : Precedes (map (moved (size a)) b.arrows) x y → JoinedArrow way a b x y
      second v = let r = precedes_moved (size a) b.arrows x y v in of_second r.0 r.1 r.2 r.3 r.4

      added : Precedes (each_to_each (lasts_of (size a) a.arrows) (map (λ j. size a + j) (entered way b))) x y → JoinedArrow way a b x y
      added v =
          let h = precedes_each _ _ x y v in
          let r = has_map (λ j. size a + j) (entered way b) y h.1 in
          let s = has_entered way g r.0 r.1 in
          between r.0 s.0 (has_last f x h.0) s.1 r.2

  pub joined_all : JoinedArrow way a b x y → Precedes (all_arrows (entered way b) a b) x y
  unfolding all_arrows
  joined_all (of_first w) = precedes_left a.arrows _ x y w
  joined_all (of_second i j w p q) = rw (p, q) (precedes_right a.arrows _ _ _ (precedes_left _ _ _ _ (moved_precedes (size a) b.arrows i j w)))
  joined_all (between j e s t q) =
      rw (e, q) (precedes_right a.arrows _ x _ (precedes_right (map (moved (size a)) b.arrows) _ x _
      (each_precedes _ _ x _ (last_has x s) (map_has (λ j. size a + j) (entered end_to_end b) j (entered_has j t)))))

-- ---- the numbers and the times of the joined graph

module _ (a b : Graph) where
  pub in_first_lem : {i : ℕ} → IsSubtask a.times i → IsSubtask (a.times ++ b.times) i
  in_first_lem s = record { low = s.low; high = omega (arith, s.high, length-append a.times b.times) }

  pub in_second_lem : {j y : ℕ} → IsSubtask b.times j → y ≡ size a + j → IsSubtask (a.times ++ b.times) y
  in_second_lem s e = record { low = omega (arith, s.low, e); high = omega (arith, s.high, e, length-append a.times b.times) }

  -- a subtask of the joined graph is one of the first or one of the second
  pub which : {x : ℕ} → IsSubtask (a.times ++ b.times) x → IsSubtask a.times x ⊎ ((j : ℕ) × IsSubtask b.times j × (x ≡ size a + j))
  which {x} s = by_cases (dec_le x (size a))
      (λ l. inl (record { low = s.low; high = l }))
      (λ h. inr (x - size a, record { low = omega arith; high = omega (arith, s.high, length-append a.times b.times) }, omega arith))

  pub time_first : (i : ℕ) → IsSubtask a.times i → time_of (a.times ++ b.times) i ≡ time_of a.times i
  unfolding time_of
  time_first i s = get_or-append a.times b.times 0 (i - 1) (omega (arith, s.low, s.high))

  pub time_second : (j : ℕ) → IsSubtask b.times j → time_of (a.times ++ b.times) (size a + j) ≡ time_of b.times j
  unfolding time_of
  time_second j s =
      let e : size a + j - 1 ≡ size a + (j - 1) = omega (arith, s.low) in
      ap (λ (k : ℕ). get_or (a.times ++ b.times) k 0) e ∙ get_or-append-add a.times b.times (j - 1) 0

-- ---- the joined graph's row

module _ (way : Way) {a b : Graph} (f : Faultless a) (g : Faultless b) where
  -- its arrows go between its subtasks
  pub joined_named : {x y : ℕ} → JoinedArrow way a b x y → IsSubtask (joined way a b).times x × IsSubtask (joined way a b).times y
  joined_named (of_first w) = (in_first_lem a b (from_named f w), in_first_lem a b (to_named f w))
  joined_named (of_second i j w p q) = (in_second_lem a b (from_named g w) p, in_second_lem a b (to_named g w) q)
  joined_named (between j e s t q) = (in_first_lem a b s.is_subtask, in_second_lem a b t.is_subtask q)

  named : (x y : ℕ) → Precedes (all_arrows (entered way b) a b) x y → Among 1 (size a + size b) x × Among 1 (size a + size b) y
  named x y w = rw (length-append a.times b.times) at (joined_named (all_joined way f g x y w))

  -- they are those of the first, those of the second and those between
  pub joined_is : {x y : ℕ} → Precedes (joined way a b).arrows x y → JoinedArrow way a b x y
  joined_is {x} {y} w = all_joined way f g x y ((same_from (size a + size b) _ named).back x y w)

  pub is_joined : {x y : ℕ} → JoinedArrow way a b x y → Precedes (joined way a b).arrows x y
  is_joined {x} {y} w = (same_from (size a + size b) _ named).there x y (joined_all way f g x y w)

-- of accepted graphs
pub joined_arrows : (way : Way) (a b : Graph) → IsAccepted a → IsAccepted b → (x y : ℕ) → Precedes (joined way a b).arrows x y ↔ JoinedArrow way a b x y
joined_arrows way a b p q x y =
    let f = accepted_faultless a p in
    let g = accepted_faultless b q in
    ((λ w. joined_is way f g w), (λ w. is_joined way f g w))

module _ (way : Way) (a b : Graph) where
  -- they ascend by "from" and then by "to", whatever the graphs are
  pub joined_rises : (p q : ℕ) → p < q → q < length (joined way a b).arrows
      → (from_of (joined way a b).arrows p < from_of (joined way a b).arrows q)
      ⊎ ((from_of (joined way a b).arrows p ≡ from_of (joined way a b).arrows q) × (to_of (joined way a b).arrows p < to_of (joined way a b).arrows q))
  joined_rises = rises_from (size a + size b) (all_arrows (entered way b) a b)

  -- so none stands twice
  pub joined_once : (p : ℕ) → p < length (joined way a b).arrows → ¬ Repeats (joined way a b).arrows p
  joined_once = once_from (size a + size b) (all_arrows (entered way b) a b)
