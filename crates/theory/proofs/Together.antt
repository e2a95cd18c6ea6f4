-- P of members, one after the other, along either way. Assumes nothing.
use Rattle.std.proofs.Common.{◌≡◌, ℕ, ◌+◌, ◌≤◌, arith}
use Rattle.terms.specs.Joins.{Way, end_to_end, side_by_side}
use Rattle.terms.specs.Nests.{together}

pub together_none : (way : Way) (p : ℕ) → together way p 0 ≡ p
together_none end_to_end p = omega arith
together_none side_by_side p = omega arith

pub none_together : (way : Way) (p : ℕ) → together way 0 p ≡ p
none_together end_to_end p = omega arith
none_together side_by_side p = omega arith

pub together_on : (way : Way) (p q r : ℕ) → together way (together way p q) r ≡ together way p (together way q r)
together_on end_to_end p q r = omega arith
together_on side_by_side p q r = omega arith

pub together_le : (way : Way) {p q c d : ℕ} → p ≤ c → q ≤ d → together way p q ≤ c + d
together_le end_to_end l m = omega arith
together_le side_by_side l m = omega arith
