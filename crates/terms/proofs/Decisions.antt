-- A row of each kind is decided together with its place, and so is a whole table, by decisions that compute. Assumes nothing.
use Rattle.std.proofs.Common.{◌≡◌, refl, subst, sym, ◌≢◌, ◌⊎◌, inl, inr, List, [], ◌∷◌, ◌++◌, ℕ, suc, ◌-◌, ◌<◌, arith, length}
use mathlib.Core.Logic.Dec
use Rattle.std.proofs.Math.Logic.{by_cases}
use Rattle.std.proofs.Math.Decide.{dec_lt}
use Rattle.terms.specs.Rows.{IsAt, Row, row, Accepted, Gives, RefusedBy, number_of, place_of, second_of}
use Rattle.terms.specs.Graphs.{IsSubtask}
use Rattle.terms.specs.Refusals.{SomeSubtask, PairAt, first_subtask, first_arrow, smallest_pair, lowest}
use Rattle.terms.specs.declared.Refusal.{Refusal}
use Rattle.terms.proofs.Decide.{via, Least, seek, dec_some, dec_among}

-- the row holds, and this is where; or it does not hold
pub data Decision (row : Row) : Type 0 where
  holds_at : (place second : ℕ) → row.holds → IsAt row.spot place second → Decision row
  never : ¬ row.holds → Decision row

-- ---- a row of each kind

unfoldable pub dec_plain : (k : ℕ) (C : Type 0) → Dec C → Decision (row k C)
unfolding IsAt
dec_plain k C (yes c) = holds_at 0 0 c (refl, refl)
dec_plain k C (no h) = never h

unfoldable pub dec_first_subtask : (k : ℕ) (times : List ℕ) (IsSo : ℕ → Type 0) → ((j : ℕ) → Dec (IsSo j)) → Decision (first_subtask k times IsSo)
unfolding IsAt seek
dec_first_subtask k times IsSo dec = go (seek (length times) (λ u. IsSo (suc u)) (λ u. dec (suc u)))
  where
    back : (j : ℕ) → IsSubtask times j → IsSo j → IsSo (suc (j - 1))
    back j s h = let e : suc (j - 1) ≡ j = omega (arith, s.low) in rw e h

    go : Least (length times) (λ u. IsSo (suc u)) ⊎ ((u : ℕ) → u < length times → ¬ IsSo (suc u)) → Decision (first_subtask k times IsSo)
    go (inl s) =
        let is : IsSubtask times (suc s.place) = record { low = omega arith; high = omega (arith, s.inside) } in
        holds_at (suc s.place) 0 (record { subtask = suc s.place; is_subtask = is; is_so = s.holds }) (
          record {
            is_so = record { is_subtask = is; is_so = s.holds };
            least = λ y l h. s.before (y - 1) (omega (arith, l, h.is_subtask.low)) (back y h.is_subtask h.is_so);
          },
          refl,
        )
    go (inr n) = never (λ h. n (h.subtask - 1) (omega (arith, h.is_subtask.low, h.is_subtask.high)) (back h.subtask h.is_subtask h.is_so))

unfoldable pub dec_first_arrow : (k : ℕ) (arrows : List (List ℕ)) (IsSo : ℕ → Type 0) → ((a : ℕ) → Dec (IsSo a)) → Decision (first_arrow k arrows IsSo)
unfolding IsAt seek
dec_first_arrow k arrows IsSo dec = go (seek (length arrows) IsSo dec)
  where
    go : Least (length arrows) IsSo ⊎ ((a : ℕ) → a < length arrows → ¬ IsSo a) → Decision (first_arrow k arrows IsSo)
    go (inl s) =
        let e : s.place ≡ suc s.place - 1 = omega arith in
        holds_at (suc s.place) 0 (record { place = s.place; inside = s.inside; is_so = s.holds }) (
          record {
            is_so = record { position = record { low = omega arith; high = omega (arith, s.inside) }; is_so = subst IsSo e s.holds };
            least = λ y l h. s.before (y - 1) (omega (arith, l, h.position.low)) h.is_so;
          },
          refl,
        )
    go (inr n) = never (λ h. n h.place h.inside h.is_so)

-- nothing from K on is so
unfoldable pub dec_lowest : (k : ℕ) (IsSo : ℕ → Type 0) (K : ℕ) → ((x : ℕ) → IsSo x → x < K) → ((x : ℕ) → Dec (IsSo x)) → Decision (lowest k IsSo)
unfolding IsAt seek
dec_lowest k IsSo K early dec = go (seek K IsSo dec)
  where
    go : Least K IsSo ⊎ ((x : ℕ) → x < K → ¬ IsSo x) → Decision (lowest k IsSo)
    go (inl s) = holds_at s.place 0 (s.place, s.holds) (record { is_so = s.holds; least = s.before }, refl)
    go (inr n) = never (λ h. n h.0 (early h.0 h.1) h.1)

-- two that are so are different, and are so the other way round
module _ (k : ℕ) (times : List ℕ) (AreSo : ℕ → ℕ → Type 0) (turn : (i j : ℕ) → AreSo i j → AreSo j i) (apart : (i j : ℕ) → AreSo i j → i ≢ j)
    (dec : (i j : ℕ) → Dec (AreSo i j)) where
  unfoldable pub dec_pair_at : (i j : ℕ) → Dec (PairAt times AreSo i j)
  unfolding via Dec.and dec_among dec_lt
  dec_pair_at i j = via
      (λ x. record { lower = x.0; higher = x.1.0; in_order = x.1.1.0; are_so = x.1.1.1 })
      (λ x. (x.lower, (x.higher, (x.in_order, x.are_so))))
      (Dec.and (dec_among 1 (length times) i) (Dec.and (dec_among 1 (length times) j) (Dec.and (dec_lt i j) (dec i j))))

  unfoldable pub dec_lower : (i : ℕ) → Dec ((j : ℕ) × PairAt times AreSo i j)
  unfolding via dec_some dec_pair_at
  dec_lower i = via (λ x. (x.0, x.2)) (λ x. (x.0, omega (arith, x.1.higher.high), x.1))
      (dec_some (suc (length times)) (λ j. PairAt times AreSo i j) (dec_pair_at i))

  pub some_pair : SomeSubtask times (λ i. SomeSubtask times (AreSo i)) → (i : ℕ) × (j : ℕ) × PairAt times AreSo i j
  some_pair h =
      let i = h.subtask in
      let j = h.is_so.subtask in
      let d = apart i j h.is_so.is_so in
      by_cases (dec_lt i j)
      (λ l. (i, j, record { lower = h.is_subtask; higher = h.is_so.is_subtask; in_order = l; are_so = h.is_so.is_so }))
      (λ l. (j, i, record { lower = h.is_so.is_subtask; higher = h.is_subtask; in_order = omega (arith, l, d); are_so = turn i j h.is_so.is_so }))

  unfoldable pub dec_smallest_pair : Decision (smallest_pair k times AreSo)
  unfolding IsAt seek dec_lower dec_pair_at
  dec_smallest_pair = go (seek (suc (length times)) (λ i. (j : ℕ) × PairAt times AreSo i j) dec_lower)
    where
      second : (i : ℕ) → ((y : ℕ) → y < i → ¬ ((j : ℕ) × PairAt times AreSo y j)) → (x : (j : ℕ) × PairAt times AreSo i j)
          → Least (suc x.0) (PairAt times AreSo i) ⊎ ((j : ℕ) → j < suc x.0 → ¬ PairAt times AreSo i j) → Decision (smallest_pair k times AreSo)
      second i before x (inl s) =
          holds_at i s.place
          (record { subtask = i; is_subtask = s.holds.lower; is_so = record { subtask = s.place; is_subtask = s.holds.higher; is_so = s.holds.are_so } })
          (record { is_so = (s.place, s.holds); least = before }, record { is_so = s.holds; least = s.before })
      second i before x (inr n) = absurd (n x.0 (omega arith) x.1)

      go : Least (suc (length times)) (λ i. (j : ℕ) × PairAt times AreSo i j) ⊎ ((i : ℕ) → i < suc (length times) → ¬ ((j : ℕ) × PairAt times AreSo i j))
          → Decision (smallest_pair k times AreSo)
      go (inl s) = second s.place s.before s.holds (seek (suc s.holds.0) (PairAt times AreSo s.place) (dec_pair_at s.place))
      go (inr n) = never (λ h. let x = some_pair h in n x.0 (omega (arith, x.2.lower.high)) (x.1, x.2))

-- ---- the answer of a table each of whose rows is decided

pub data Decided : List Row → Type 1 where
  none : Decided []
  and : {row : Row} {rows : List Row} → Decision row → Decided rows → Decided (row ∷ rows)

-- no row holds
unfoldable pub Accepts : {rows : List Row} → Decided rows → Type 0
Accepts none = Unit {0}
Accepts (and (holds_at place second h s) later) = ⊥
Accepts (and (never h) later) = Accepts later

-- these are the number, the place and the second number of a refusal
pub record Tells (a : Refusal) (k place second : ℕ) : Type 0 where
  pub number_is : number_of a ≡ k
  pub place_is : place_of a ≡ place
  pub second_is : second_of a ≡ second

pub told : {a : Refusal} → Tells a (number_of a) (place_of a) (second_of a)
told = record { number_is = refl; place_is = refl; second_is = refl }

pub gives : {row : Row} {place second : ℕ} (a : Refusal) → row.holds → IsAt row.spot place second → Tells a row.number place second → Gives row a
gives {row} {place} {second} a h s t =
    let there = subst (λ (x : ℕ). IsAt row.spot x second) (sym t.place_is) s in
    record { holds = h; number_is = t.number_is; spot_is = subst (IsAt row.spot (place_of a)) (sym t.second_is) there }

-- the first row that holds gives this refusal
unfoldable pub Refuses : {rows : List Row} → Refusal → Decided rows → Type 0
Refuses r none = ⊥
Refuses r (and {row} (holds_at place second h s) later) = Tells r row.number place second
Refuses r (and (never h) later) = Refuses r later

pub accepts : {rows : List Row} (decided : Decided rows) → Accepts decided → Accepted rows
unfolding Accepted Accepts
accepts none a = tt
accepts (and (holds_at place second h s) later) a = absurd a
accepts (and (never h) later) a = (h, accepts later a)

pub refuses : {rows : List Row} (r : Refusal) (decided : Decided rows) → Refuses r decided → RefusedBy rows r
unfolding RefusedBy Refuses
refuses r none e = absurd e
refuses r (and (holds_at place second h s) later) tells = inl (gives r h s tells)
refuses r (and (never h) later) e = inr (h, refuses r later e)

unfoldable pub then : {rows later : List Row} → Decided rows → Decided later → Decided (rows ++ later)
then none later = later
then (and d rows) later = and d (then rows later)
