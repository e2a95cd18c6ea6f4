-- The first item that is so, as the library's `position` finds it. Assumes nothing.
use Rattle.std.proofs.Common.{ℕ, ◌<◌, List, length, get_or, arith}
use Rattle.std.specs.Prelude.{Option, Some, None}
use Rattle.std.specs.Option.{MatchOption}
use Rattle.std.specs.List.{AllWithin, HoldsAt}
use Rattle.theory.specs.First.{IsFirst}

module _ {X : Type 0} (d : X) (xs : List X) {IsSo : ℕ → Type 0} (Yes No : X → Type 0)
    (so : (k : ℕ) → Yes (get_or xs k d) → IsSo k) (not_so : (k : ℕ) → No (get_or xs k d) → ¬ IsSo k) where
  pub first_position : (r : Option ℕ) → MatchOption r (AllWithin No xs 0 (length xs)) (λ i. (i < length xs) × HoldsAt Yes xs i × AllWithin No xs 0 i)
      → IsFirst (length xs) IsSo r
  unfolding IsFirst
  first_position None none = λ k l. not_so k (none k d (omega arith) l)
  first_position (Some i) (l, here, before) = record { inside = l; is_so = so i (here d); least = λ k b. not_so k (before k d (omega arith) b) }
