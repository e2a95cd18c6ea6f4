-- Some bytes written to the front of a room, all else as it was; or 11 for want of room, and all as it was.
use Rattle.std.specs.Prelude.{◌≡◌, List, ◌++◌, ℕ, ◌≤◌, ◌<◌, length, drop, Result, Ok, Err}
use Rattle.terms.specs.declared.Refusal.{Refusal}
use Rattle.terms.specs.declared.Refusal.TheVariants.{Room}

unfoldable pub Writes : List ℕ → List ℕ → List ℕ → Result ℕ Refusal → Type 0
Writes bytes before after (Ok k) = (length bytes ≤ length before) × (k ≡ length bytes) × (after ≡ bytes ++ drop k before)
Writes bytes before after (Err refusal) = (length before < length bytes) × (refusal ≡ Room) × (after ≡ before)
