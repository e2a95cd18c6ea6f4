-- What the tables need of a sound graph and an order; and the beginning, with nothing placed. Assumes nothing.
use Rattle.std.proofs.Common.{◌≡◌, refl, ap, List, Bool, None, ℕ, zero, suc, ◌-◌, ◌<◌, arith, length, get_or, replicate}
use Rattle.std.proofs.Math.Decide.{dec_le}
use Rattle.std.proofs.Math.ListN.{length-replicate, get_or-replicate}
use Rattle.std.proofs.Math.Logic.{by_cases}
use Rattle.terms.specs.Graphs.{from_of, to_of}
use Rattle.terms.specs.Plans.{not_placed, processor_of, start_of}
use Rattle.terms.specs.ListRule.{IsOrder, begin}
use Rattle.terms.specs.declared.Entry.{Entry}
use Rattle.theory.specs.Sound.{SoundGraph}
use Rattle.theory.proofs.Stores.{read_noughts}
use Rattle.theory.proofs.Counting.{count_same, count_none, count_some}
use Rattle.forms.specs.Forms.{never}
use Rattle.listplan.specs.Tables.{Roomy, ArrowsTo, Distinct, Sources}
use Rattle.listplan.specs.Making.{IsJob, waits, Holding, unended, Making, FirstOf}
use Rattle.listplan.proofs.Following.{Following}
use Rattle.listplan.proofs.Scans.{none_yet, none_free}

pub roomy : {times : List ℕ} {arrows : List (List ℕ)} → SoundGraph times arrows → Roomy arrows
roomy g = record {
  few = g.few;
  from_small = λ a l. omega (arith, (g.named a l).0.high, g.count.high);
  to_small = λ a l. omega (arith, (g.named a l).1.high, g.count.high);
}

pub distinct : {times : List ℕ} {arrows : List (List ℕ)} {order : List ℕ} → SoundGraph times arrows → IsOrder times order → Distinct order
distinct g o = record {
  few = omega (arith, o.whole, g.count.high);
  small = λ x l. omega (arith, (o.each x l).high, g.count.high);
  once = o.once;
}

-- a plan with nothing placed
all_blank : (n i : ℕ) → get_or (replicate n not_placed) i not_placed ≡ not_placed
all_blank zero i = refl
all_blank (suc n) zero = refl
all_blank (suc n) (suc i) = all_blank n i

module _ {times : List ℕ} {arrows : List (List ℕ)} {order : List ℕ} {M : ℕ} {first next rank : List ℕ} (job : IsJob times arrows order M first next rank) where
  pub nothing_placed : {L : List ℕ} {R : List Bool} {P : List Entry} → ArrowsTo arrows L (length arrows) → Sources order L R (length order)
      → P ≡ replicate (length times) not_placed → Making times arrows order M 0 0 L R (replicate 17 never) (replicate 17 0) P
  unfolding processor_of start_of
  nothing_placed {L} {R} {P} arrive sources e = record {
    whole = rw e (length-replicate {A = Entry} (length times) not_placed);
    early = omega arith;
    begun = λ j s. omega (arith, ap (λ (x : Entry). x.start) (blank j));
    made = rw e begin;
    holders = record {
      long_until = length-replicate {A = ℕ} 17 never;
      long_who = length-replicate {A = ℕ} 17 0;
      nobody = λ p a z. get_or-replicate 17 p never 0 (omega (arith, a.high, job.within.high));
      holder = λ p a b. absurd (omega (arith, read_noughts 17 p));
      ended = λ j s h. absurd (h (waits (nought j)));
    };
    lefts = record {
      long = arrive.long;
      count = λ k r. count_same _ _ (length arrows) (get_or L k 0) (λ a l h. (h, all a)) (λ a l h. h.0)
          (arrive.count k (omega (arith, r.high, job.graph.count.high)));
    };
    marks = record {
      long = sources.long;
      opens = λ y l z. record {
        unplaced = nought (get_or order y 0);
        served = λ a m g _. count_none _ (length arrows) _ a (arrive.count (get_or order y 0) (small y l)) ((sources.marks y l).none z) m g;
      };
      marked = λ y l o. (sources.marks y l).marked (by_cases (dec_le 1 (get_or L (get_or order y 0) 0))
          (λ b. let r = count_some _ (length arrows) _ (arrive.count (get_or order y 0) (small y l)) b in absurd (o.served r.0 r.1 r.2 (all r.0)))
          (λ b. omega arith));
    };
    cursor = record { within = omega arith; ended = λ l. absurd (omega arith) };
    blocked = λ a l h. nought (to_of arrows a);
  }
    where
      blank : (j : ℕ) → get_or P (j - 1) not_placed ≡ not_placed
      blank j = rw e (all_blank (length times) (j - 1))

      nought : (j : ℕ) → (get_or P (j - 1) not_placed).processor.0 ≡ 0
      nought j = ap (λ (x : Entry). x.processor.0) (blank j)

      all : (a : ℕ) → Holding arrows P (replicate 17 0) 0 a
      all a = unended (waits (nought (from_of arrows a)))

      small : (y : ℕ) → y < length order → get_or order y 0 < 257
      small y l = omega (arith, (job.is_order.each y l).high, job.graph.count.high)

  pub begins : {L : List ℕ} {R : List Bool} {P : List Entry} → Making times arrows order M 0 0 L R (replicate 17 never) (replicate 17 0) P
      → Following times arrows order M 0 0 L R (replicate 17 never) (replicate 17 0) P None 1 0
  unfolding FirstOf
  begins mk = record {
    making = mk;
    unmarked = none_yet;
    first_due = record {
      within = omega arith;
      none = λ k l d.
          let e : ◌≡◌ {A = ℕ} (get_or (replicate 17 never) k 0) never = get_or-replicate 17 k never 0 (omega (arith, job.within.high)) in
          omega (arith, d.by);
    };
    free_one = omega arith;
    busy = none_free (omega arith);
  }
