-- A row with some arrows dropped is one of those of which demand 3 speaks. Assumes nothing.
use Rattle.std.proofs.Common.{◌≡◌, refl, sym, ap, ◌∙◌, List, [], ℕ, zero, suc, ◌<◌, arith, length, get_or}
use Rattle.terms.specs.Graphs.{Among, IsSubtask, time_of, from_of, to_of, Precedes}
use Rattle.terms.specs.Alterations.{Altered, Dropped, none, keep, omit}
use Rattle.theory.specs.Sound.{SoundGraph}

-- where an arrow that is left stood
place : {xs ys : List (List ℕ)} → Dropped xs ys → ℕ → ℕ
place none b = b
place (keep d) zero = zero
place (keep d) (suc b) = suc (place d b)
place (omit d) b = suc (place d b)

place_inside : {xs ys : List (List ℕ)} (d : Dropped xs ys) (b : ℕ) → b < length ys → place d b < length xs
unfolding place
place_inside none b l = absurd (omega arith)
place_inside (keep d) zero l = omega arith
place_inside (keep d) (suc b) l = let x = place_inside d b (omega arith) in omega arith
place_inside (omit d) b l = let x = place_inside d b l in omega arith

place_same : {xs ys : List (List ℕ)} (d : Dropped xs ys) (b : ℕ) → b < length ys → get_or xs (place d b) [] ≡ get_or ys b []
unfolding place
place_same none b l = absurd (omega arith)
place_same (keep d) zero l = refl
place_same (keep d) (suc b) l = place_same d b (omega arith)
place_same (omit d) b l = place_same d b l

place_rises : {xs ys : List (List ℕ)} (d : Dropped xs ys) (b c : ℕ) → b < c → place d b < place d c
unfolding place
place_rises none b c l = l
place_rises (keep d) b zero l = absurd (omega arith)
place_rises (keep d) zero (suc c) l = omega arith
place_rises (keep d) (suc b) (suc c) l = let x = place_rises d b c (omega arith) in omega arith
place_rises (omit d) b c l = let x = place_rises d b c l in omega arith

module _ {arrows arrows' : List (List ℕ)} (d : Dropped arrows arrows') where
  from_same : (b : ℕ) → b < length arrows' → from_of arrows (place d b) ≡ from_of arrows' b
  unfolding from_of
  from_same b l = ap (λ (x : List ℕ). get_or x 0 0) (place_same d b l)

  to_same : (b : ℕ) → b < length arrows' → to_of arrows (place d b) ≡ to_of arrows' b
  unfolding to_of
  to_same b l = ap (λ (x : List ℕ). get_or x 1 0) (place_same d b l)

  arrow_was : {i j : ℕ} → Precedes arrows' i j → Precedes arrows i j
  arrow_was w = record {
    place = place d w.place;
    inside = place_inside d w.place w.inside;
    begins = from_same w.place w.inside ∙ w.begins;
    arrives = to_same w.place w.inside ∙ w.arrives;
  }

  -- shorter times, dropped arrows, M processors or more
  pub dropped_altered : {times times' : List ℕ} {M M' : ℕ} → SoundGraph times arrows → length times' ≡ length times
      → ((j : ℕ) → IsSubtask times j → Among 1 (time_of times j) (time_of times' j)) → Among M 16 M' → Altered times arrows M times' arrows' M'
  dropped_altered g same shorter wider = record {
    same = same;
    shorter = shorter;
    kept = λ i j w. arrow_was w;
    once = λ b l r. g.once (place d r.earlier) (place d b) (place_rises d r.earlier b r.before) (place_inside d b l) (
      from_same r.earlier (omega (arith, r.before)) ∙ r.same_from ∙ sym (from_same b l),
      to_same r.earlier (omega (arith, r.before)) ∙ r.same_to ∙ sym (to_same b l),
    );
    wider = wider;
  }
