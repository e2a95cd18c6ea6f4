-- The digits of a number put from the last to the first: whoever puts those that are left has put them all. Assumes nothing.
use Rattle.std.proofs.Common.{◌≡◌, sym, ap, ◌∙◌, List, [], ◌∷◌, ◌++◌, ℕ, ◌+◌, ◌-◌, ◌/◌, ◌%◌, ◌≤◌, ◌<◌, length, set, arith, length-append}
use Rattle.std.proofs.Math.Logic.{by_cases}
use Rattle.std.proofs.Math.Decide.{dec_le}
use Rattle.std.proofs.lemmas.List.Edits.{sets}
use Rattle.terms.specs.Writings.{decimal}
use Rattle.theory.proofs.Stores.{sets_last}
use Rattle.theory.proofs.Decimals.{decimal_digit, decimal_step, some_decimal}
use Rattle.room.specs.Puts.{Put}
use Rattle.room.proofs.Puts.{put_whole}

-- of x at a place the digits of `rest` are left, and end before place i
pub record DigitsLeft (before : List ℕ) (at x : ℕ) (text : List ℕ) (i rest : ℕ) : Type 0 where
  pub all : sets text at (decimal rest) ≡ sets before at (decimal x)
  pub place : i ≡ at + length (decimal rest)

-- several are left; or the first one alone is
pub digits_several : {before text : List ℕ} {at x i rest : ℕ} → at + 1 < i → DigitsLeft before at x text i rest → 10 ≤ rest
digits_several {rest = rest} h left = by_cases (dec_le 10 rest) (λ l. l) (λ n. absurd (omega (arith, left.place, ap length (decimal_digit rest (omega arith)))))

pub digits_first : {before text : List ℕ} {at x i rest : ℕ} → i ≤ at + 1 → DigitsLeft before at x text i rest → rest < 10
digits_first {rest = rest} h left = by_cases (dec_le 10 rest)
    (λ l. absurd (omega (arith, left.place, ap length (decimal_step rest l), length-append (decimal (rest / 10)) ((48 + rest % 10) ∷ []), some_decimal (rest / 10))))
    (λ n. omega arith)

pub digits_step : {before text : List ℕ} {at x i rest : ℕ} → at + 1 < i → DigitsLeft before at x text i rest
    → DigitsLeft before at x (set text (i - 1) (48 + rest % 10)) (i - 1) (rest / 10)
digits_step {before} {text} {at} {x} {i} {rest} h left =
    let front = decimal (rest / 10) in
    let digit = 48 + rest % 10 in
    let step : decimal rest ≡ front ++ digit ∷ [] = decimal_step rest (digits_several h left) in
    let place : i - 1 ≡ at + length front = omega (arith, left.place, ap length step, length-append front (digit ∷ [])) in
    record {
      all = ap (λ (k : ℕ). sets (set text k digit) at front) place ∙ sets_last text at front digit ∙ ap (sets text at) (sym step) ∙ left.all;
      place = place;
    }

pub digits_end : {before text : List ℕ} {at x i rest : ℕ} (past : ℕ) → i ≤ at + 1 → past ≡ at + length (decimal x) → past ≤ length before
    → DigitsLeft before at x text i rest → Put before at (decimal x) (set text at (48 + rest)) past
digits_end {before} {text} {at} {x} {i} {rest} past h e room left = put_whole (omega (arith, e, room)) (record {
  held = ap (sets text at) (sym (decimal_digit rest (digits_first h left))) ∙ left.all;
  next = e;
})
