-- Numbers, and a run of arrows, put down one by one. Assumes nothing.
use Rattle.std.proofs.Common.{◌≡◌, sym, ap, ap₂, ◌∙◌, ℕ, ◌+◌, ◌≤◌, ◌<◌, List, [], ◌∷◌, ◌++◌, length, take, drop, get_or, arith, set, length-append}
use Rattle.std.proofs.lemmas.List.{length-map, map-append, length-take-le, take_more}
use Rattle.std.proofs.lemmas.List.Edits.{sets, sets-eq}
use Rattle.std.proofs.Math.Seq.{take-length}
use Rattle.theory.proofs.Stores.{sets_append}
use Rattle.joins.specs.Puts.{run_of}

module _ (numbers before : List ℕ) (at : ℕ) where
  -- the first i numbers are put
  abbrev pub PutNumbers : List ℕ → ℕ → Type 0
  PutNumbers row i = row ≡ sets before at (take i numbers)

  pub number_more : {row : List ℕ} {i : ℕ} → i < length numbers → PutNumbers row i → PutNumbers (set row (at + i) (get_or numbers i 0)) (i + 1)
  number_more {row} {i} l e =
      let size : length (take i numbers) ≡ i = length-take-le i numbers (omega (arith, l)) in
      ap₂ (λ (r : List ℕ) (k : ℕ). set r k (get_or numbers i 0)) e (omega (arith, size))
      ∙ sym (sets_append before at (take i numbers) (get_or numbers i 0 ∷ []))
      ∙ ap (λ (r : List ℕ). sets before at r) (sym (take_more numbers i 0 l))

-- some numbers put at the front of a row, and then some behind them
pub numbers_put : (first second row : List ℕ) {between after : List ℕ} → length first + length second ≤ length row → between ≡ sets row 0 first → after ≡ sets between (length first) second
    → after ≡ first ++ second ++ drop (length first + length second) row
numbers_put first second row room e d =
    let z : length first ≡ 0 + length first = omega arith in
    let long : 0 + length (first ++ second) ≤ length row = omega (arith, length-append first second, room) in
    d ∙ ap₂ (λ (r : List ℕ) (i : ℕ). sets r i second) e z ∙ sym (sets_append row 0 first second)
    ∙ sets-eq (first ++ second) row 0 long
    ∙ ap (λ (k : ℕ). first ++ second ++ drop k row) (omega (arith, length-append first second))

module _ (from up : ℕ) (numbers : List ℕ) (before : List (List ℕ)) (at : ℕ) where
  -- those to the first i numbers are put
  abbrev pub Put : List (List ℕ) → ℕ → Type 0
  Put arrows i = arrows ≡ sets before at (run_of from up (take i numbers))

  pub put_more : {arrows : List (List ℕ)} {i : ℕ} → i < length numbers → Put arrows i
      → Put (set arrows (at + i) (from ∷ (up + get_or numbers i 0) ∷ [])) (i + 1)
  unfolding run_of
  put_more {arrows} {i} l e =
      let first = run_of from up (take i numbers) in
      let next = from ∷ (up + get_or numbers i 0) ∷ [] in
      let size : length first ≡ i = length-map (take i numbers) _ ∙ length-take-le i numbers (omega (arith, l)) in
      ap₂ (λ (row : List (List ℕ)) (k : ℕ). set row k next) e (omega (arith, size))
      ∙ sym (sets_append before at first (next ∷ []))
      ∙ ap (λ (row : List (List ℕ)). sets before at row)
      (sym (ap (run_of from up) (take_more numbers i 0 l) ∙ map-append _ (take i numbers) (get_or numbers i 0 ∷ [])))

  pub put_all : {arrows : List (List ℕ)} {i : ℕ} → i ≡ length numbers → Put arrows i → arrows ≡ sets before at (run_of from up numbers)
  put_all e p = p ∙ ap (λ (row : List ℕ). sets before at (run_of from up row)) (ap (λ (i : ℕ). take i numbers) e ∙ take-length numbers)
