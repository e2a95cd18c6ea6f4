-- The latest end of a predecessor of each subtask, arrow by arrow. Assumes nothing.
use Rattle.std.proofs.Common.{◌≡◌, sym, ap, ◌∙◌, List, ℕ, ◌+◌, ◌<◌, max, arith, get_or, set, replicate, length-set}
use Rattle.std.proofs.Math.Decide.{dec_le, ℕ_discrete}
use Rattle.std.proofs.Math.ListN.{length-replicate, get_or-replicate}
use Rattle.std.proofs.Math.Logic.{by_cases}
use Rattle.terms.specs.Graphs.{from_of, to_of}
use Rattle.terms.specs.Plans.{end_of}
use Rattle.terms.specs.declared.Entry.{Entry}
use Rattle.theory.proofs.Stores.{read_set}
use Rattle.plancheck.specs.Known.{LatestEnd, LatestEnds}

module _ (times : List ℕ) (arrows : List (List ℕ)) (plan : List Entry) where
  pub latest_none : LatestEnds times arrows plan 0 (replicate 257 0)
  latest_none = record {
    long = length-replicate {A = ℕ} 257 0;
    each = λ j l. record { most = λ a b q. absurd (omega (arith, b)); reached = λ x. absurd (nought j l x) };
  }
    where
      nought : (j : ℕ) → j < 257 → ¬ (0 < get_or (replicate 257 0) j 0)
      nought j l x = omega (arith, x, get_or-replicate {A = ℕ} 257 j 0 0 l)

  module _ (ready : List ℕ) (i v e r : ℕ) (h : LatestEnds times arrows plan i ready) (to : v ≡ to_of arrows i) (l : v < 257)
      (end : e ≡ end_of times plan (from_of arrows i)) (larger : r ≡ max (get_or ready v 0) e) where
    pub latest_more : LatestEnds times arrows plan (i + 1) (set ready v r)
    latest_more = record {
      long = length-set ready v r ∙ h.long;
      each =
          λ j m. read_set (λ x. LatestEnd times arrows plan (i + 1) j x) ready v r j (omega (arith, h.long, l)) (λ c. here j c (h.each j m))
          (λ c. there j c (h.each j m));
    }
      where
        here : (j : ℕ) → j ≡ v → LatestEnd times arrows plan i j (get_or ready j 0) → LatestEnd times arrows plan (i + 1) j r
        here j c o =
            let same : get_or ready j 0 ≡ get_or ready v 0 = ap (λ (y : ℕ). get_or ready y 0) c in
            record {
              most = λ k m z. by_cases (ℕ_discrete k i) (λ g. rw g (omega arith)) (λ g. omega (arith, o.most k (omega arith) z));
              reached = λ x. by_cases (dec_le e (get_or ready v 0))
                  (λ g.
                  let is : get_or ready j 0 ≡ r = omega arith in
                  let w = o.reached (omega arith) in
                  (w.0, omega (arith, w.1), w.2, w.3 ∙ is))
                  (λ g.
                  let is : e ≡ r = omega arith in
                  (i, omega arith, sym to ∙ sym c, sym end ∙ is));
            }

        there : (j : ℕ) → ¬ (j ≡ v) → LatestEnd times arrows plan i j (get_or ready j 0) → LatestEnd times arrows plan (i + 1) j (get_or ready j 0)
        there j c o = record {
          most = λ k m z. by_cases (ℕ_discrete k i) (λ g. absurd (c (sym z ∙ ap (to_of arrows) g ∙ sym to))) (λ g. o.most k (omega arith) z);
          reached = λ x. let w = o.reached x in (w.0, omega (arith, w.1), w.2, w.3);
        }
