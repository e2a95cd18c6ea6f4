-- The lines after the last task's: a line of spaces and tabs is one without fields, and a comment begins with #. Assumes nothing.
use Rattle.std.proofs.Common.{◌≡◌, refl, sym, ap, List, [], ◌∷◌, map, Bool, true, false, not, ℕ, suc, ◌+◌, ◌≤◌, ◌<◌, arith, ne_eqb, eqb, Option, Some, None}
use Rattle.std.proofs.Common.{length, get_or, drop, drop_of_length-le, drop-cons, drop-drop}
use Rattle.std.proofs.Math.Bool.{or-true}
use Rattle.terms.specs.Texts.{all_pass, begins, onto, is_blank, is_field, value, lines, fields, proper, numbers, ends_here}
use Rattle.terms.specs.Readings.{refuse, graph, may_follow, trailer}
use Rattle.text.specs.Steps.{line_size}
use Rattle.text.specs.Rest.{line}
use Rattle.text.specs.Standing.{Ended}
use Rattle.text.proofs.Places.{size_within}
use Rattle.text.proofs.Lines.{later_size, size_on}
use Rattle.stg.specs.LinesRead.{Follower, FollowerOf}
use Rattle.stg.specs.Numbers.{SomeNumber, LineEndOf}
use Rattle.stg.proofs.OneLine.{lines_at}
use Rattle.terms.specs.declared.Refusal.TheVariants.{TaskLine}

abbrev none : List (List ℕ) → Bool
none [] = true
none (w ∷ ws) = false

onto_some : (b : ℕ) (ls : List (List ℕ)) → none (onto b ls) ≡ false
onto_some b [] = refl
onto_some b (l ∷ ls) = refl

blank_step : (b : ℕ) (l : List ℕ) (t u : Bool) → is_blank b ≡ t → begins (λ x. not (is_blank x)) l ≡ u → all_pass is_blank l ≡ none (fields l)
    → all_pass is_blank (b ∷ l) ≡ none (fields (b ∷ l))
unfolding all_pass fields
blank_step b l true u e f h = rw e h
blank_step b l false true e f h = rw (e, f) (sym (onto_some b (fields l)))
blank_step b l false false e f h = rw (e, f)

-- a line of blanks is one without fields
blank_line : (l : List ℕ) → all_pass is_blank l ≡ none (fields l)
unfolding all_pass fields
blank_line [] = refl
blank_line (b ∷ l) = blank_step b l (is_blank b) (begins (λ x. not (is_blank x)) l) refl refl (blank_line l)

no_fields : (ws : List (List ℕ)) → map value ws ≡ [] → none ws ≡ true
no_fields [] e = refl
no_fields (w ∷ ws) e = let z : ◌≡◌ {A = ℕ} (suc (length (map value ws))) 0 = ap length e in absurd (omega arith)

some_fields : (ws : List (List ℕ)) → (all_pass is_field ws ≡ true → 1 ≤ length (map value ws)) → none ws ≡ false
unfolding all_pass
some_fields [] h = absurd (omega (arith, h refl))
some_fields (w ∷ ws) h = refl

module _ (text : List ℕ) (at : ℕ) (h : at < length text) where
  sharp : get_or text at 0 ≡ 35 → begins (λ b. eqb b 35) (line (drop at text)) ≡ true
  unfolding line
  sharp e = rw (drop-cons text at 0 h, e)

  plain : (b : ℕ) (s : List ℕ) (t : Bool) → ends_here (b ∷ s) ≡ t → (b ≡ 35 → ⊥) → begins (λ b. eqb b 35) (line (b ∷ s)) ≡ false
  unfolding line
  plain b s true e f = rw e
  plain b s false e f = rw (e, ne_eqb b 35 f)

  not_sharp : (get_or text at 0 ≡ 35 → ⊥) → begins (λ b. eqb b 35) (line (drop at text)) ≡ false
  not_sharp e = rw (drop-cons text at 0 h) (plain (get_or text at 0) (drop (suc at) text) (ends_here (get_or text at 0 ∷ drop (suc at) text)) refl e)

  pub follower_comment : (e : ℕ) → get_or text at 0 ≡ 35 → e ≡ at + line_size (drop at text) → Follower text at e
  unfolding may_follow
  follower_comment e s q =
      record {
        may = rw (sharp s) (or-true (all_pass is_blank (line (drop at text))));
        next = rw (q, ← drop-drop (line_size (drop at text)) at text) (later_size (drop at text));
        inside = rw q (size_within text at (omega arith));
        on = rw q (size_on text at h);
      }

  module _ (s : get_or text at 0 ≡ 35 → ⊥) where
    follower_some : SomeNumber text at → may_follow (line (drop at text)) ≡ false
    unfolding may_follow proper numbers
    follower_some k = rw (blank_line (line (drop at text)), some_fields (fields (line (drop at text))) k, not_sharp s)

    follower_blank : (e : ℕ) → Ended text at e → Follower text at e
    unfolding may_follow numbers
    follower_blank e q =
        record {
          may = rw (blank_line (line (drop at text)), no_fields (fields (line (drop at text))) q.none);
          next = q.next;
          inside = q.inside;
          on = q.on h;
        }

    pub followed : (r : Option ℕ) → LineEndOf text at r → FollowerOf text at r
    followed None k = follower_some k
    followed (Some e) q = follower_blank e q

  pub trailer_more : (e : ℕ) → Follower text at e → trailer (lines (drop at text)) ≡ trailer (lines (drop e text))
  unfolding trailer
  trailer_more e p = rw (lines_at text at h, p.may, p.next)

  pub trailer_stop : may_follow (line (drop at text)) ≡ false → trailer (lines (drop at text)) ≡ refuse TaskLine
  unfolding trailer
  trailer_stop e = rw (lines_at text at h, e)

pub trailer_end : (text : List ℕ) (at : ℕ) → length text ≤ at → trailer (lines (drop at text)) ≡ graph [] []
unfolding trailer lines
trailer_end text at h = rw (drop_of_length-le text h)
