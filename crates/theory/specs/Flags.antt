-- What a flag says.
use Rattle.std.specs.Prelude.{Bool, true, false}

-- whether A holds
abbrev pub Says : Type 0 → Bool → Type 0
Says A true = A
Says A false = ¬ A

-- where it is true, that A holds; else nothing
abbrev pub Shows : Type 0 → Bool → Type 0
Shows A true = A
Shows A false = Unit {0}
