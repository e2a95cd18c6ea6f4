-- Arrows put down one behind the other, from a place of a row on.
use Rattle.std.specs.Prelude.{◌≡◌, List, [], ◌∷◌, map, ℕ, ◌+◌, ◌-◌, ◌≤◌, ◌<◌, length, get_or}
use Rattle.std.proofs.lemmas.List.Edits.{sets}
use Rattle.terms.specs.Graphs.{Among}
use Rattle.terms.specs.Arrangements.{for_each, out_of}
use Rattle.terms.specs.Joins.{moved}
use Rattle.theory.specs.Joined.{or_else}

-- these stand in the row from a place on, all else is as it was, and the next place is behind them
pub record Puts {A : Type 0} (before : List A) (at : ℕ) (wanted after : List A) (next : ℕ) : Type 0 where
  pub behind : next ≡ at + length wanted
  pub stands : after ≡ sets before at wanted

-- the arrows from one number to each of some others, moved up
unfoldable pub run_of : ℕ → ℕ → List ℕ → List (List ℕ)
run_of from up row = map (λ i. from ∷ (up + i) ∷ []) row

-- of n rows the arrows of the first m, all numbers moved up; where a row is empty, arrows to some numbers behind the n
unfoldable pub rows_arrows : ℕ → ℕ → List ℕ → (ℕ → List ℕ) → ℕ → List (List ℕ)
rows_arrows up n targets row m = map (moved up) (for_each (λ v. or_else (map (λ j. n + j) targets) (row v)) out_of m)

-- the two tables hold n rows of numbers of 1..n
pub record SmallRows (n : ℕ) (begins numbers : List ℕ) : Type 0 where
  pub long : n < length begins
  pub rises : (v : ℕ) → Among 1 n v → get_or begins (v - 1) 0 ≤ get_or begins v 0
  pub inside : (v : ℕ) → Among 1 n v → get_or begins v 0 ≤ length numbers
  pub small : (v i : ℕ) → Among 1 n v → get_or begins (v - 1) 0 ≤ i → i < get_or begins v 0 → get_or numbers i 0 ≤ n

-- and the numbers behind the n are not large either
pub record Moves (up n : ℕ) (targets : List ℕ) : Type 0 where
  pub few : up + n ≤ 256
  pub small : (i : ℕ) → i < length targets → get_or targets i 0 ≤ 256
