-- What stands next at a place of a text: the equations of `next_number`, and what it tells about the line there. Assumes nothing.
use Rattle.std.proofs.Common.{ℕ, ◌+◌, ◌≤◌, ◌<◌, ◌≡◌, refl, sym, ◌∙◌, ap, List, [], ◌∷◌, ◌++◌, Bool, true, false, cond, ◌&&◌, arith, add-zero, eq-or-lt_of_le}
use Rattle.std.proofs.Common.{⊎_elim, leb, length, drop, get_or, drop-drop, ne_eqb, le-leb}
use Rattle.std.proofs.Math.Bool.{and-true}
use Rattle.std.proofs.lemmas.Bool.{lt-leb}
use Rattle.terms.specs.Texts.{all_pass, is_digit, fields, is_field, value, proper, numbers, ends_here, blanks, digits}
use Rattle.text.specs.declared.Next.{Next}
use Rattle.text.specs.declared.Next.TheVariants as next
use Rattle.text.specs.Steps.{line_size, no_number, next_at, next_number}
use Rattle.text.specs.Rest.{line, later}
use Rattle.text.specs.Standing.{Ended, Stands}
use Rattle.text.proofs.Digits.{false_true}
use Rattle.text.proofs.Places.{blanks_within, digits_within, size_within}
use Rattle.text.proofs.Lines.{fields_blanks, later_blanks, blanks_none, Run, run, FieldOrSpoilt, field_or_spoilt, line_off, spoilt}
use Rattle.text.proofs.Lines.{fields_none, proper_none, numbers_none, later_size, size_on}

-- each of the digits is one
pub digits_all : (text : List ℕ) (start : ℕ) (d : List ℕ) → d ≡ digits (drop start text) → all_pass is_digit d ≡ true
digits_all text start d q = rw q (run (drop start text)).all

-- ---- what stands at a place where no digit is, given the text from there on

pub none_feed : (place : ℕ) (s : List ℕ) → get_or s 0 0 ≡ 10 → next.LineEnd (place + 1) ≡ no_number place s
unfolding line_size
none_feed place [] e = absurd (omega arith)
none_feed place (b ∷ s) e = rw e

pub none_return : (place : ℕ) (s : List ℕ) → 2 ≤ length s → get_or s 0 0 ≡ 13 → get_or s 1 0 ≡ 10 → next.LineEnd (place + 2) ≡ no_number place s
unfolding line_size
none_return place [] h e f = absurd (omega arith)
none_return place (b ∷ []) h e f = absurd (omega arith)
none_return place (b ∷ d ∷ s) h e f = rw (e, f)

-- ---- what stands at `at`, where the spaces and tabs end at `start`

module _ (text : List ℕ) (at start : ℕ) (p : start ≡ at + blanks (drop at text)) where
  to_start : drop (blanks (drop at text)) (drop at text) ≡ drop start text
  to_start = rw (drop-drop (blanks (drop at text)) at text, ← p)

  -- no space and no tab stands there
  start_blanks : blanks (drop start text) ≡ 0
  start_blanks = sym (ap blanks to_start) ∙ blanks_none (drop at text)

  next_start : next_number at (drop at text) ≡ next_at start (drop start text)
  unfolding next_number
  next_start = rw (to_start, ← p)

  module _ (d : List ℕ) (q : d ≡ digits (drop start text)) where
    pub next_none : (r : Next) → length d ≡ 0 → r ≡ no_number start (drop start text) → r ≡ next_number at (drop at text)
    next_none r z k = rw (next_start, ← q, z, k)

    module _ (z : length d ≡ 0 → ⊥) where
      pub next_long : 8 < length d → next.Misshapen ≡ next_number at (drop at text)
      next_long l = rw (next_start, ← q, ne_eqb (length d) 0 z, lt-leb (length d) 8 l)

      pub next_is : (v : ℕ) → v ≡ value d → length d ≤ 8 → next.Field v (start + length d) ≡ next_number at (drop at text)
      next_is v m l = rw (next_start, ← q, ne_eqb (length d) 0 z, le-leb (length d) 8 l, m)

  module _ (h : at ≤ length text) where
    fields_start : fields (line (drop at text)) ≡ fields (line (drop start text))
    fields_start = fields_blanks (drop at text) ∙ ap (λ (l : List ℕ). fields (line l)) to_start

    proper_start : proper (line (drop at text)) ≡ proper (line (drop start text))
    unfolding proper
    proper_start = ap (λ (ws : List (List ℕ)). all_pass is_field ws) fields_start

    later_start : later (drop at text) ≡ later (drop start text)
    later_start = later_blanks (drop at text) ∙ ap later to_start

    start_within : start ≤ length text
    start_within = omega (arith, blanks_within text at h)

    at_line_end : line (drop start text) ≡ [] → Ended text at (start + line_size (drop start text))
    at_line_end z =
        let n : fields (line (drop at text)) ≡ [] = fields_start ∙ ap fields z ∙ fields_none in
        record {
          sound = proper_none (line (drop at text)) n;
          none = numbers_none (line (drop at text)) n;
          next = later_start ∙ later_size (drop start text) ∙ rw (drop-drop (line_size (drop start text)) start text);
          inside = size_within text start start_within;
          past = omega arith;
          on =
              λ l. ⊎_elim (λ (x : start ≡ length text). omega arith) (λ (x : start < length text). let y = size_on text start x in omega arith)
              (eq-or-lt_of_le start_within);
        }

    ends_or_not : (b : ℕ) (s : List ℕ) (t : Bool) → ends_here (b ∷ s) ≡ t → drop start text ≡ b ∷ s → digits (b ∷ s) ≡ []
        → Stands text at (no_number start (b ∷ s))
    ends_or_not b s true e q z = rw e (rw q at (at_line_end (rw q (line_off b s e))))
    ends_or_not b s false e q z = rw e (proper_start ∙ rw q (spoilt b s (rw q at start_blanks) z e))

    at_none : (s : List ℕ) → drop start text ≡ s → digits s ≡ [] → Stands text at (no_number start s)
    unfolding line line_size
    at_none [] q z = rw (q, add-zero) at (at_line_end (rw q))
    at_none (b ∷ s) q z = ends_or_not b s (ends_here (b ∷ s)) refl q z

    module _ (d : List ℕ) (q : d ≡ digits (drop start text)) (z : 1 ≤ length d) where
      met : Run (drop start text) d (drop (start + length d) text)
      met = rw (← q, drop-drop (length d) start text) at (run (drop start text))

      behind : FieldOrSpoilt d (line (drop (start + length d) text))
      behind = field_or_spoilt d (line (drop (start + length d) text)) z met.all met.stop

      module _ (f : fields (d ++ line (drop (start + length d) text)) ≡ d ∷ fields (line (drop (start + length d) text))) where
        with_field : fields (line (drop at text)) ≡ d ∷ fields (line (drop (start + length d) text))
        with_field = fields_start ∙ ap fields met.split ∙ f

        proper_field : (t : Bool) → leb (length d) 8 ≡ t → proper (line (drop at text)) ≡ (t && proper (line (drop (start + length d) text)))
        unfolding proper all_pass
        proper_field t m = rw (with_field, le-leb 1 (length d) z, m, met.all, and-true t)

        numbers_field : numbers (line (drop at text)) ≡ value d ∷ numbers (line (drop (start + length d) text))
        unfolding numbers
        numbers_field = rw with_field

      proper_spoilt : proper (d ++ line (drop (start + length d) text)) ≡ false → proper (line (drop at text)) ≡ false
      proper_spoilt f = proper_start ∙ ap proper met.split ∙ f

      at_digits : (t : Bool) → leb (length d) 8 ≡ t → Stands text at (cond t (next.Field (value d) (start + length d)) next.Misshapen)
      at_digits false m = ⊎_elim (λ f. proper_field f false m) (λ f. proper_spoilt f.0) behind
      at_digits true m =
          record {
            sound = ⊎_elim (λ f. proper_field f true m) (λ f. proper_spoilt f.0 ∙ sym f.1) behind;
            some = λ e. ⊎_elim (λ f. numbers_field f) (λ f. false_true (sym f.1 ∙ e)) behind;
            next = later_start ∙ met.next;
            inside = digits_within text start d q z;
            on = omega arith;
          }

    at_start : (d : List ℕ) → d ≡ digits (drop start text) → Stands text at (next_at start (drop start text))
    at_start [] q = rw (← q) (at_none (drop start text) refl (sym q))
    at_start (b ∷ d) q = rw (← q, ne_eqb (length (b ∷ d)) 0 (λ e. omega arith)) (at_digits (b ∷ d) q (omega arith) (leb (length (b ∷ d)) 8) refl)

    from_start : Stands text at (next_number at (drop at text))
    from_start = rw next_start (at_start (digits (drop start text)) refl)

-- what stands next at a place inside the text tells the rest of its line and the lines after it
pub stands : (text : List ℕ) (at : ℕ) → at ≤ length text → Stands text at (next_number at (drop at text))
stands text at h = from_start text at (at + blanks (drop at text)) refl h
