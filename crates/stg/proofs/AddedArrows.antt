-- One predecessor more, in a row of arrows. Assumes nothing.
use Rattle.std.proofs.Common.{◌≡◌, refl, sym, ap, List, [], ◌∷◌, ◌++◌, map, Bool, true, false, cond, ℕ, ◌+◌, ◌≤◌, arith, add-zero, eq-eqb, ne_eqb, eqb}
use Rattle.std.proofs.Common.{length, set, length-append}
use Rattle.std.proofs.lemmas.List.{length-map}
use Rattle.std.proofs.lemmas.List.Edits.{sets}
use Rattle.std.proofs.Math.Seq.{set_out}
use Rattle.terms.specs.Readings.{arrows_into}
use Rattle.theory.proofs.Stores.{sets_append}
use Rattle.stg.specs.LinesRead.{clipped, hold, held, Added}

-- ---- one predecessor

module _ (i p a : ℕ) (row : List (List ℕ)) where
  pub added_zero : p ≡ 0 → Added i (p ∷ []) a row a row
  unfolding arrows_into
  added_zero e = record { counts = rw (eq-eqb p 0 e, add-zero); holds = rw (eq-eqb p 0 e) }

  pub added_out : (p ≡ 0 → ⊥) → length row ≤ a → Added i (p ∷ []) a row (a + 1) row
  unfolding arrows_into
  added_out e h = record { counts = rw (ne_eqb p 0 e); holds = rw (ne_eqb p 0 e) (sym (set_out row a _ h)) }

  pub added_in : (p ≡ 0 → ⊥) → (x y : ℕ) → x ≡ clipped p → y ≡ i → Added i (p ∷ []) a row (a + 1) (set row a (x ∷ y ∷ []))
  unfolding arrows_into
  added_in e x y q r = record { counts = rw (ne_eqb p 0 e); holds = rw (ne_eqb p 0 e, q, r) }

-- ---- one, then others

pub map_hold : (xs ys : List (List ℕ)) → map hold (xs ++ ys) ≡ map hold xs ++ map hold ys
map_hold [] ys = refl
map_hold (x ∷ xs) ys = ap (λ (l : List (List ℕ)). hold x ∷ l) (map_hold xs ys)

one_more : (t : Bool) (x : List ℕ) (xs : List (List ℕ)) → cond t xs (x ∷ xs) ≡ cond t [] (x ∷ []) ++ xs
one_more true x xs = refl
one_more false x xs = refl

one_at_most : (t : Bool) (x : List ℕ) → length (cond t [] (x ∷ [])) ≤ 1
one_at_most true x = omega arith
one_at_most false x = omega arith

module _ (i p a : ℕ) (row : List (List ℕ)) (b : ℕ) (row' : List (List ℕ)) (h : Added i (p ∷ []) a row b row') where
  pub added_few : b ≤ a + 1
  unfolding arrows_into
  added_few = omega (arith, h.counts, one_at_most (eqb p 0) (p ∷ i ∷ []))

  module _ (qs : List ℕ) where
    into_more : arrows_into i (p ∷ qs) ≡ arrows_into i (p ∷ []) ++ arrows_into i qs
    unfolding arrows_into
    into_more = one_more (eqb p 0) (p ∷ i ∷ []) (arrows_into i qs)

    pub added_counts : a + length (arrows_into i (p ∷ qs)) ≡ b + length (arrows_into i qs)
    added_counts = rw (into_more, length-append (arrows_into i (p ∷ [])) (arrows_into i qs)) (omega (arith, h.counts))

    pub added_holds : sets row a (held i (p ∷ qs)) ≡ sets row' b (held i qs)
    added_holds =
        rw (
          into_more,
          map_hold (arrows_into i (p ∷ [])) (arrows_into i qs),
          sets_append row a (held i (p ∷ [])) (held i qs),
          length-map
              (arrows_into i (p ∷ [])) hold,
          ← h.counts,
          ← h.holds,
        )
