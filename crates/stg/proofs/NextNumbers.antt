-- What a reply of `next_number` tells of the line at hand. Assumes nothing.
use Rattle.std.proofs.Common.{◌≡◌, refl, sym, ap, ◌∙◌, ℕ, ◌≤◌, List, length, drop, arith}
use Rattle.text.specs.Standing.{Stands}
use Rattle.text.specs.Steps.{next_number}
use Rattle.text.specs.declared.Next.{Next}
use Rattle.text.specs.declared.Next.TheVariants as next
use Rattle.text.proofs.Digits.{false_true}
use Rattle.text.proofs.Steps.{stands}
use Rattle.stg.specs.Numbers.{NoNumber, SomeNumber}

module _ (text : List ℕ) (at : ℕ) where
  -- a reply that is known
  pub seen : (r x : Next) → r ≡ x → at ≤ length text → r ≡ next_number at (drop at text) → Stands text at x
  seen r x e h q = rw (sym e ∙ q) (stands text at h)

  -- a reply of which only is known which it is not
  not_field : (r : Next) → Stands text at r → ((v e : ℕ) → ¬ (r ≡ next.Field v e)) → NoNumber text at
  not_field (next.LineEnd e) s n h = s.none
  not_field next.Misshapen s n h = false_true (sym s ∙ h)
  not_field (next.Field v e) s n h = absurd (n v e refl)

  not_line_end : (r : Next) → Stands text at r → ((e : ℕ) → ¬ (r ≡ next.LineEnd e)) → SomeNumber text at
  not_line_end (next.LineEnd e) s n h = absurd (n e refl)
  not_line_end next.Misshapen s n h = false_true (sym s ∙ h)
  not_line_end (next.Field v e) s n h = omega (arith, ap length (s.some (sym s.sound ∙ h)))

  pub no_field : (r : Next) → at ≤ length text → r ≡ next_number at (drop at text) → ((v e : ℕ) → ¬ (r ≡ next.Field v e)) → NoNumber text at
  no_field r h q = not_field r (seen r r refl h q)

  pub no_line_end : (r : Next) → at ≤ length text → r ≡ next_number at (drop at text) → ((e : ℕ) → ¬ (r ≡ next.LineEnd e)) → SomeNumber text at
  no_line_end r h q = not_line_end r (seen r r refl h q)
