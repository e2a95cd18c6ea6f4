-- Demand 3's words on graph G: examples 2, 3 and 4 together are an altered G. Assumes nothing.
use Rattle.std.proofs.Common.{◌≡◌, refl, ◌∙◌, List, ℕ, ◌<◌, length}
use mathlib.Core.Logic.Dec
use Rattle.std.proofs.Math.Decide.{dec_le, dec_lt, ℕ_discrete}
use Rattle.terms.specs.Graphs.{Among, time_of, from_of, to_of, Precedes}
use Rattle.terms.specs.Refusals.{Repeats}
use Rattle.terms.specs.Alterations.{Altered, Dropped, none, keep, omit}
use Rattle.terms.proofs.Decide.{by_yes, via, seek, dec_some, dec_all, dec_each, dec_among, dec_repeats}
use Rattle.terms.proofs.Examples.{times_g, arrows_g, shorter_g, fewer_g}

-- each arrow of the second row stands in the first
abbrev Kept : List (List ℕ) → List (List ℕ) → Type 0
Kept arrows arrows' = (b : ℕ) → b < length arrows' → (a : ℕ) × (a < length arrows) × ((from_of arrows a ≡ from_of arrows' b) × (to_of arrows a ≡ to_of arrows' b))

unfoldable dec_kept : (arrows arrows' : List (List ℕ)) → Dec (Kept arrows arrows')
unfolding dec_all dec_some Dec.and ℕ_discrete
dec_kept arrows arrows' =
    dec_all (length arrows') (λ b. (a : ℕ) × (a < length arrows) × ((from_of arrows a ≡ from_of arrows' b) × (to_of arrows a ≡ to_of arrows' b)))
    (λ b. dec_some (length arrows) (λ a. (from_of arrows a ≡ from_of arrows' b) × (to_of arrows a ≡ to_of arrows' b))
    (λ a. Dec.and (ℕ_discrete (from_of arrows a) (from_of arrows' b)) (ℕ_discrete (to_of arrows a) (to_of arrows' b))))

was_there : (arrows arrows' : List (List ℕ)) → Kept arrows arrows' → (i j : ℕ) → Precedes arrows' i j → Precedes arrows i j
was_there arrows arrows' kept i j w =
    let x = kept w.place w.inside in
    record { place = x.0; inside = x.1; begins = x.2.0 ∙ w.begins; arrives = x.2.1 ∙ w.arrives }

pub altered_G : Altered times_g arrows_g 3 shorter_g fewer_g 4
unfolding dec_kept via seek dec_some dec_all dec_each dec_among dec_repeats Dec.and Dec.not dec_le dec_lt ℕ_discrete time_of from_of to_of
altered_G = record {
  same = refl;
  shorter = by_yes (dec_each 9 (λ j. Among 1 (time_of times_g j) (time_of shorter_g j)) (λ j. dec_among 1 (time_of times_g j) (time_of shorter_g j))) tt;
  kept = was_there arrows_g fewer_g (by_yes (dec_kept arrows_g fewer_g) tt);
  once = by_yes (dec_all 3 (λ b. ¬ Repeats fewer_g b) (λ b. Dec.not (dec_repeats fewer_g b))) tt;
  wider = by_yes (dec_among 3 16 4) tt;
}

pub dropped_G : Dropped arrows_g fewer_g
dropped_G = keep (omit (omit (keep (keep none))))
