-- Counting.
use Rattle.std.specs.Prelude.{◌≡◌, ◌⊎◌, ℕ, zero, suc, ◌-◌, ◌≤◌}

-- yes and no as 1 and 0
unfoldable pub bit : {A : Type 0} → Dec A → ℕ
bit (yes a) = 1
bit (no h) = 0

-- k of the places below n are so
unfoldable pub Count : (ℕ → Type 0) → ℕ → ℕ → Type 0
Count IsSo zero k = k ≡ 0
Count IsSo (suc n) k = (IsSo n × (1 ≤ k) × Count IsSo n (k - 1)) ⊎ ((¬ IsSo n) × Count IsSo n k)
