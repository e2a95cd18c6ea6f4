-- The first arrow that is the same as one before it, found along the chains. Assumes nothing.
use Rattle.std.proofs.Common.{◌≡◌, refl, sym, ◌∙◌, ℕ, ◌+◌, ◌-◌, ◌≤◌, ◌<◌, List, length, get_or, arith, Option, Some, None, min, ⊎_elim, eq-or-lt_of_le, set, replicate, length-set}
use Rattle.std.proofs.Math.Logic.{by_cases}
use Rattle.std.proofs.Math.Decide.{dec_le}
use Rattle.std.proofs.lemmas.List.{length-replicate, get_or-replicate}
use Rattle.terms.specs.Graphs.{from_of, to_of}
use Rattle.terms.specs.Refusals.{Repeats}
use Rattle.theory.specs.First.{IsFirst}
use Rattle.theory.proofs.Stores.{read_set, read_sets}
use Rattle.graph.specs.Scans.{earlier_of}
use Rattle.graph.specs.Chains.{Tidy, Last, Chains}
use Rattle.graph.proofs.Chained.{Along, Looks, along_begin, along_next, next_less, passed_now}

-- a place was found, and none later than j
pub record FoundBy (found : Option ℕ) (j : ℕ) : Type 0 where
  pub place : ℕ
  pub is : found ≡ Some place
  pub early : place ≤ j

found_earlier : {found : Option ℕ} {j : ℕ} (place : ℕ) → FoundBy found j → FoundBy (Some (earlier_of found place)) j
found_earlier place f = rw f.is (record { place = min f.place place; is = refl; early = omega (arith, f.early) })

found_place : (found : Option ℕ) (place : ℕ) {j : ℕ} → place ≤ j → FoundBy (Some (earlier_of found place)) j
found_place None place l = record { place = place; is = refl; early = l }
found_place (Some i) place l = record { place = min i place; is = refl; early = omega (arith, l) }

none_found : {j : ℕ} → ¬ FoundBy None j
none_found f = let e : None ≡ Some f.place = f.is in cc

found_late : {i j : ℕ} → j < i → ¬ FoundBy (Some i) j
found_late {i} l f = let e : Some i ≡ Some f.place = f.is in let q : i ≡ f.place = cc in omega (arith, l, f.early, q)

-- what was found is a repeat
pub data Sound (arrows : List (List ℕ)) : Option ℕ → Type 0 where
  none : Sound arrows None
  some : {i : ℕ} → i < length arrows → Repeats arrows i → Sound arrows (Some i)

module _ (arrows : List (List ℕ)) where
  -- the arrows into the subtasks before v are met
  pub record Before (seen met : List ℕ) (found : Option ℕ) (v : ℕ) : Type 0 where
    pub long_seen : length seen ≡ 257
    pub long_met : length met ≡ 257
    pub upto : (x : ℕ) → x < 257 → get_or seen x 0 < v
    pub sound : Sound arrows found
    pub old : (j : ℕ) → j < length arrows → to_of arrows j < v → Repeats arrows j → FoundBy found j

  -- m is the position of an arrow from x into v that was met
  pub record WasMet (v c x m : ℕ) : Type 0 where
    pub behind : c < m
    pub inside : m ≤ length arrows
    pub begins : from_of arrows (m - 1) ≡ x
    pub arrives : to_of arrows (m - 1) ≡ v

  -- and so are those into v from place c on
  pub record Met (seen met : List ℕ) (found : Option ℕ) (v c : ℕ) : Type 0 where
    pub long_seen : length seen ≡ 257
    pub long_met : length met ≡ 257
    pub along : Along arrows v c
    pub upto : (x : ℕ) → x < 257 → get_or seen x 0 ≤ v
    pub kept : (x : ℕ) → x < 257 → get_or seen x 0 ≡ v → WasMet v c x (get_or met x 0)
    pub near : (k : ℕ) → c ≤ k → k < length arrows → to_of arrows k ≡ v
        → (get_or seen (from_of arrows k) 0 ≡ v) × (get_or met (from_of arrows k) 0 ≤ k + 1)
    pub sound : Sound arrows found
    pub old : (j : ℕ) → j < length arrows → to_of arrows j < v → Repeats arrows j → FoundBy found j
    pub new : (j : ℕ) → j < length arrows → to_of arrows j ≡ v → (h : Repeats arrows j) → c ≤ h.earlier → FoundBy found j

module _ {n : ℕ} {arrows : List (List ℕ)} (tidy : Tidy n arrows) where
  -- ---- no arrow is met
  pub before_start : Before arrows (replicate 257 0) (replicate 257 0) None 1
  before_start = record {
    long_seen = length-replicate {A = ℕ} 257 0;
    long_met = length-replicate {A = ℕ} 257 0;
    upto = λ x b. omega (arith, get_or-replicate {A = ℕ} 257 x 0 0 b);
    sound = none;
    old = λ j l b _. absurd (omega (arith, b, (tidy.to_in j l).low));
  }

  -- ---- all chains are met
  pub before_end : {seen met : List ℕ} {found : Option ℕ} {v : ℕ} → n < v → Before arrows seen met found v → IsFirst (length arrows) (Repeats arrows) found
  unfolding IsFirst
  before_end {found = found} all r = ended found r.sound (λ j l. r.old j l (omega (arith, all, (tidy.to_in j l).high)))
    where
      ended : (found : Option ℕ) → Sound arrows found → ((j : ℕ) → j < length arrows → Repeats arrows j → FoundBy found j) → IsFirst (length arrows) (Repeats arrows) found
      ended None _ all = λ k l h. none_found (all k l h)
      ended (Some i) (some l h) all = record { inside = l; is_so = h; least = λ k b g. found_late b (all k (omega (arith, b, l)) g) }

  module _ {first next : List ℕ} (chains : Chains (to_of arrows) first next (length arrows)) where
    -- ---- on to the chain of v, in which no arrow was met
    pub met_begin : {seen met : List ℕ} {found : Option ℕ} {v : ℕ} → v < 257 → Before arrows seen met found v → Met arrows seen met found v (get_or first v 0)
    met_begin {v = v} small r = record {
      long_seen = r.long_seen;
      long_met = r.long_met;
      along = along_begin last;
      upto = λ y b. omega (arith, r.upto y b);
      kept = λ y b e. absurd (omega (arith, e, r.upto y b));
      near = λ k a l e. absurd (last.gap k a l e);
      sound = r.sound;
      old = r.old;
      new = λ j l e g b. absurd (last.gap g.earlier b (omega (arith, g.before, l)) (g.same_to ∙ e));
    }
      where
        last : Last (to_of arrows) v (length arrows) (get_or first v 0)
        last = chains.start v small

    module _ {seen met : List ℕ} {found : Option ℕ} {v c : ℕ} (r : Met arrows seen met found v c) where
      -- ---- at its end
      pub met_end : c ≡ 0 → Before arrows seen met found (v + 1)
      met_end e = record {
        long_seen = r.long_seen;
        long_met = r.long_met;
        upto = λ x b. omega (arith, r.upto x b);
        sound = r.sound;
        old = λ j l b g. ⊎_elim (λ q. r.new j l q g (omega (arith, e))) (λ q. r.old j l q g)
            (eq-or-lt_of_le {n = to_of arrows j} {m = v} (omega (arith, b)));
      }

      -- ---- the arrow at the cursor, from u
      module _ {u : ℕ} (at : Looks n arrows v c u) where
        pass : {found' : Option ℕ} → Sound arrows found' → ((j : ℕ) → FoundBy found j → FoundBy found' j)
            → ((j : ℕ) → get_or seen u 0 ≡ v → get_or met u 0 ≤ j + 1 → FoundBy found' j)
            → Met arrows (set seen u v) (set met u c) found' v (get_or next (c - 1) 0)
        pass {found'} sound keep hit = record {
          long_seen = length-set seen u v ∙ r.long_seen;
          long_met = length-set met u c ∙ r.long_met;
          along = along_next chains at;
          upto = λ y b. read_set (λ s. s ≤ v) seen u v y ls (λ _. omega arith) (λ _. r.upto y b);
          kept = λ y b. read_sets (λ s m. s ≡ v → WasMet arrows v x y m) seen met u v c y ls lm
              (λ e _. record { behind = less; inside = r.along.within; begins = sym at.begins ∙ sym e; arrives = at.arrives })
              (λ _ q. let w = r.kept y b q in
              record { behind = omega (arith, w.behind, less); inside = w.inside; begins = w.begins; arrives = w.arrives });
          near = λ k a l e. read_sets (λ s m. (s ≡ v) × (m ≤ k + 1)) seen met u v c (from_of arrows k) ls lm
              (λ _. (refl, passed_now chains at k a e (λ b. omega (arith, b)) (λ q _. omega (arith, q))))
              (λ z. passed_now chains at k a e (λ b. r.near k b l e) (λ _ q. absurd (z q)));
          sound = sound;
          old = λ j l b g. keep j (r.old j l b g);
          new = λ j l e g b. passed_now chains at g.earlier b (g.same_to ∙ e) (λ q. keep j (r.new j l e g q))
              (λ q z. repeated j l e g q (sym g.same_from ∙ z));
        }
          where
            x : ℕ
            x = get_or next (c - 1) 0

            less : x < c
            less = next_less chains at

            ls : u < length seen
            ls = omega (arith, r.long_seen, at.from_small)

            lm : u < length met
            lm = omega (arith, r.long_met, at.from_small)

            -- an arrow from u into v that comes later repeats the present one
            repeated : (j : ℕ) → j < length arrows → to_of arrows j ≡ v → (g : Repeats arrows j) → g.earlier ≡ c - 1 → from_of arrows j ≡ u → FoundBy found' j
            repeated j l e g q z =
                let near : (get_or seen u 0 ≡ v) × (get_or met u 0 ≤ j + 1) = rw z at (r.near j (omega (arith, q, g.before)) l e) in
                hit j near.0 near.1

        -- none from u was met in the chain of v
        pub met_other : ¬ (get_or seen u 0 ≡ v) → Met arrows (set seen u v) (set met u c) found v (get_or next (c - 1) 0)
        met_other other = pass r.sound (λ j f. f) (λ j e _. absurd (other e))

        -- one was: it repeats the present one
        module _ (e : get_or seen u 0 ≡ v) where
          was : WasMet arrows v c u (get_or met u 0)
          was = r.kept u at.from_small e

          pub met_some : 1 ≤ get_or met u 0
          met_some = omega (arith, was.behind)

          pub met_same : Met arrows (set seen u v) (set met u c) (Some (earlier_of found (get_or met u 0 - 1))) v (get_or next (c - 1) 0)
          met_same = pass (sound_new found r.sound) (λ j. found_earlier (get_or met u 0 - 1)) (λ j _ l. found_place found _ (omega (arith, l)))
            where
              place : ℕ
              place = get_or met u 0 - 1

              repeats : Repeats arrows place
              repeats = record {
                earlier = c - 1;
                before = omega (arith, was.behind, at.some);
                same_from = sym at.begins ∙ sym was.begins;
                same_to = at.arrives ∙ sym was.arrives;
              }

              sound_new : (found : Option ℕ) → Sound arrows found → Sound arrows (Some (earlier_of found place))
              sound_new None _ = some (omega (arith, was.behind, was.inside)) repeats
              sound_new (Some i) (some l h) = by_cases (dec_le i place)
                  (λ q. let e : min i place ≡ i = omega arith in rw e (some l h))
                  (λ q. let e : min i place ≡ place = omega arith in rw e (some {i = place} (omega (arith, was.behind, was.inside)) repeats))
