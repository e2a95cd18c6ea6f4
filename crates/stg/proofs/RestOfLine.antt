-- The rest of a line, predecessor by predecessor: what is passed and what is left make up the same. Assumes nothing.
use Rattle.std.proofs.Common.{ℕ, ◌+◌, ◌≤◌, ◌<◌, ◌≡◌, refl, sym, ◌∙◌, ap, ⊎_elim, List, [], ◌∷◌, Bool, true, false, ◌&&◌, arith, add-zero, eq-or-lt_of_le}
use Rattle.std.proofs.Common.{length, drop, ltb}
use Rattle.std.proofs.Math.Bool.{and-true, and_assoc}
use Rattle.std.proofs.lemmas.List.Edits.{sets}
use Rattle.terms.specs.Texts.{all_pass, proper, numbers}
use Rattle.terms.specs.Readings.{arrows_into}
use Rattle.text.specs.Rest.{line, later}
use Rattle.text.specs.Standing.{Passed, Ended}
use Rattle.stg.specs.LinesRead.{held, Added, PredecessorsAre}
use Rattle.stg.proofs.AddedArrows.{added_counts, added_holds, added_few}

-- of the predecessors ns of task i, k are passed and ms are left
pub record Left (ns ms : List ℕ) (i : ℕ) (row : List (List ℕ)) (a k : ℕ) (below : Bool) (b : ℕ) (row' : List (List ℕ)) : Type 0 where
  pub many : length ns ≡ k + length ms
  pub each : all_pass (λ p. ltb p i) ns ≡ (below && all_pass (λ p. ltb p i) ms)
  pub counts : a + length (arrows_into i ns) ≡ b + length (arrows_into i ms)
  pub holds : sets row a (held i ns) ≡ sets row' b (held i ms)

left_all : (ns : List ℕ) (i : ℕ) (row : List (List ℕ)) (a : ℕ) → Left ns ns i row a 0 true a row
left_all ns i row a = record { many = omega arith; each = refl; counts = refl; holds = refl }

left_less : (ns ls ms : List ℕ) (i : ℕ) (row : List (List ℕ)) (a k : ℕ) (below : Bool) (b : ℕ) (row' : List (List ℕ)) → Left ns ls i row a k below b row'
    → (p : ℕ) (still : Bool) (c : ℕ) (row'' : List (List ℕ)) → ls ≡ p ∷ ms → still ≡ (below && ltb p i) → Added i (p ∷ []) b row' c row''
    → Left ns ms i row a (k + 1) still c row''
unfolding all_pass
left_less ns ls ms i row a k below b row' o p still c row'' e s d =
    record {
      many = omega (arith, o.many, ap length e);
      each =
          o.each
          ∙ ap (λ (l : List ℕ). below && all_pass (λ p. ltb p i) l) e
          ∙ sym (and_assoc below (ltb p i) (all_pass (λ p. ltb p i) ms))
          ∙ ap (λ (t : Bool). t && all_pass (λ p. ltb p i) ms) (sym s);
      counts = o.counts ∙ ap (λ (l : List ℕ). b + length (arrows_into i l)) e ∙ added_counts i p b row' c row'' d ms;
      holds = o.holds ∙ ap (λ (l : List ℕ). sets row' b (held i l)) e ∙ added_holds i p b row' c row'' d ms;
    }

-- ---- the loop

-- k numbers of the line were passed between at and here; they are told of where the rest of the line is well shaped
pub record Passing (text : List ℕ) (at i : ℕ) (row : List (List ℕ)) (a here k : ℕ) (below : Bool) (b : ℕ) (row' : List (List ℕ)) : Type 0 where
  pub sound : proper (line (drop at text)) ≡ proper (line (drop here text))
  pub told : proper (line (drop here text)) ≡ true → Left (numbers (line (drop at text))) (numbers (line (drop here text))) i row a k below b row'
  pub next : later (drop at text) ≡ later (drop here text)
  pub inside : here ≤ length text
  pub past : at ≤ here
  pub fewer : k ≤ here
  pub few : b ≤ here

pub passing_none : (text : List ℕ) (at i : ℕ) (row : List (List ℕ)) (a : ℕ) → at ≤ length text → a ≤ at → Passing text at i row a at 0 true a row
passing_none text at i row a h f =
    record {
      sound = refl;
      told = λ _. left_all (numbers (line (drop at text))) i row a;
      next = refl;
      inside = h;
      past = omega arith;
      fewer = omega arith;
      few = f;
    }

module _ {text : List ℕ} {at i : ℕ} {row : List (List ℕ)} {a here k : ℕ} {below : Bool} {b : ℕ} {row' : List (List ℕ)}
    (o : Passing text at i row a here k below b row') where
  pub passing_more : {p e : ℕ} {still : Bool} {c : ℕ} {row'' : List (List ℕ)} → Passed text here p e → still ≡ (below && ltb p i)
      → Added i (p ∷ []) b row' c row''
      → Passing text at i row a e (k + 1) still c row''
  passing_more {p} {e} {still} {c} {row''} q s d =
      record {
        sound = o.sound ∙ q.sound;
        told = λ h. left_less _ _ _ i row a k below b row' (o.told (q.sound ∙ h)) p still c row'' (q.some h) s d;
        next = o.next ∙ q.next;
        inside = q.inside;
        past = omega arith;
        fewer = omega arith;
        few = omega (arith, added_few i p b row' c row'' d);
      }

  pub passing_bad : proper (line (drop here text)) ≡ false → proper (line (drop at text)) ≡ false
  passing_bad e = o.sound ∙ e

  pub passing_end : {e : ℕ} → Ended text here e → PredecessorsAre text at i row a k below b e row'
  unfolding all_pass arrows_into
  passing_end q =
      let l = o.told q.sound in
      record {
        sound = o.sound ∙ q.sound;
        many = omega (arith, l.many, ap length q.none);
        gives =
            record {
              each = l.each ∙ rw q.none (and-true below);
              adds = record { counts = sym (l.counts ∙ rw (q.none, add-zero)); holds = sym (l.holds ∙ rw q.none) };
              few = omega arith;
              next = o.next ∙ q.next;
              inside = q.inside;
              past = omega arith;
              on = λ l. ⊎_elim (λ (x : at ≡ here). omega (arith, q.on (omega arith))) (λ (x : at < here). omega arith) (eq-or-lt_of_le o.past);
            };
      }
