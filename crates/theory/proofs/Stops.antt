-- The next row, of each kind that has a place, gives the refusal: its place says that it holds. Assumes nothing.
use Rattle.std.proofs.Common.{◌≡◌, refl, ◌≢◌, List, ◌∷◌, ℕ, ◌-◌, arith, length}
use Rattle.terms.specs.Graphs.{IsSubtask}
use Rattle.terms.specs.Rows.{Smallest, IsAt, Row, RefusedBy}
use Rattle.terms.specs.Refusals.{SomeSubtask, SomeArrow, SubtaskAt, ArrowAt, PairAt, first_subtask, first_arrow, smallest_pair, lowest}
use Rattle.terms.specs.declared.Refusal.{Refusal}
use Rattle.theory.specs.First.{First, FirstSubtask}
use Rattle.terms.proofs.Decisions.{Tells}
use Rattle.theory.proofs.Firsts.{first_is, first_least}
use Rattle.theory.proofs.Answers.{Passed, stop_at}

-- ---- what a scan answers is a place

-- of two conditions that are the same
pub smallest_as : {IsSo IsToo : ℕ → Type 0} {x : ℕ} → ((y : ℕ) → IsSo y → IsToo y) → ((y : ℕ) → IsToo y → IsSo y) → Smallest IsSo x → Smallest IsToo x
smallest_as to back s = record { is_so = to _ s.is_so; least = λ y l h. s.least y l (back y h) }

module _ {arrows : List (List ℕ)} {IsSo : ℕ → Type 0} {r : ℕ} (f : First (length arrows) IsSo r) where
  pub arrow_at : r ≢ 0 → Smallest (ArrowAt arrows IsSo) r
  arrow_at h = record {
    is_so = record { position = record { low = omega (arith, h); high = f.within }; is_so = f.holds (omega (arith, h)) };
    least = λ y l a. f.least (y - 1) (omega (arith, l, a.position.low)) a.is_so;
  }

  pub no_arrow : r ≡ 0 → ¬ SomeArrow arrows IsSo
  no_arrow e s = f.none e s.place s.inside s.is_so

-- the condition of the scan and that of the table are the same for every subtask
pub subtask_at_lem : {times : List ℕ} {n : ℕ} (Scanned IsSo : ℕ → Type 0) → n ≡ length times
    → ((j : ℕ) → IsSubtask times j → Scanned j → IsSo j) → ((j : ℕ) → IsSubtask times j → IsSo j → Scanned j)
    → {r : ℕ} → FirstSubtask n Scanned r → r ≢ 0 → Smallest (SubtaskAt times IsSo) r
subtask_at_lem Scanned IsSo e to back {r} f h =
    let x = first_is Scanned f h in
    let s = rw e at x.0 in record {
      is_so = record { is_subtask = s; is_so = to r s x.1 };
      least = λ y l a. first_least Scanned f y a.is_subtask.low l (back y a.is_subtask a.is_so);
    }

-- ---- the refusals

module _ {rows rest : List Row} {k : ℕ} {a : Refusal} where
  pub stop_subtask : {times : List ℕ} {IsSo : ℕ → Type 0} {r : ℕ} → Passed rows (first_subtask k times IsSo ∷ rest)
      → Smallest (SubtaskAt times IsSo) r → Tells a k r 0 → RefusedBy rows a
  unfolding IsAt
  stop_subtask {times} {IsSo} {r} p s e =
      let holds : SomeSubtask times IsSo = record { subtask = r; is_subtask = s.is_so.is_subtask; is_so = s.is_so.is_so } in
      stop_at p holds (s, refl) e

  pub stop_arrow : {arrows : List (List ℕ)} {IsSo : ℕ → Type 0} {r : ℕ} → Passed rows (first_arrow k arrows IsSo ∷ rest)
      → Smallest (ArrowAt arrows IsSo) r → Tells a k r 0 → RefusedBy rows a
  unfolding IsAt
  stop_arrow {arrows} {IsSo} {r} p s e =
      let holds : SomeArrow arrows IsSo = record { place = r - 1; inside = omega (arith, s.is_so.position.low, s.is_so.position.high); is_so = s.is_so.is_so } in
      stop_at p holds (s, refl) e

  pub stop_pair : {times : List ℕ} {AreSo : ℕ → ℕ → Type 0} {i j : ℕ} → Passed rows (smallest_pair k times AreSo ∷ rest)
      → Smallest (λ x. (y : ℕ) × PairAt times AreSo x y) i → Smallest (PairAt times AreSo i) j → Tells a k i j → RefusedBy rows a
  unfolding IsAt
  stop_pair {times} {AreSo} {i} {j} p s t e =
      let two = t.is_so in
      let holds : SomeSubtask times (λ x. SomeSubtask times (AreSo x)) =
      record { subtask = i; is_subtask = two.lower; is_so = record { subtask = j; is_subtask = two.higher; is_so = two.are_so } } in
      stop_at p holds (s, t) e

  pub stop_lowest : {IsSo : ℕ → Type 0} {r : ℕ} → Passed rows (lowest k IsSo ∷ rest) → Smallest IsSo r → Tells a k r 0 → RefusedBy rows a
  unfolding IsAt
  stop_lowest {r = r} p s e = stop_at p (r, s.is_so) (s, refl) e
