-- The chains of the arrows, and how many go to each subtask, arrow by arrow. Assumes nothing.
use Rattle.std.proofs.Common.{◌≡◌, sym, ap, ◌∙◌, List, ℕ, suc, ◌+◌, ◌≤◌, ◌<◌, arith, length, get_or, set, replicate, length-set}
use Rattle.std.proofs.Math.ListN.{length-replicate}
use Rattle.terms.specs.Graphs.{from_of, to_of}
use Rattle.theory.specs.Counting.{Count}
use Rattle.theory.proofs.Stores.{read_set, read_noughts}
use Rattle.theory.proofs.Counting.{count_also, count_but, count_most}
use Rattle.graph.specs.Chains.{Chains}
use Rattle.graph.proofs.Chained.{chains_none, chains_more}
use Rattle.listplan.specs.Tables.{Roomy, ArrowsTo}

-- the first i arrows are chained and counted
pub record Chained (arrows : List (List ℕ)) (first next left : List ℕ) (i : ℕ) : Type 0 where
  pub within : i ≤ length arrows
  pub chains : Chains (from_of arrows) first next i
  pub counts : ArrowsTo arrows left i

pub chained_none : {arrows : List (List ℕ)} {first next left : List ℕ} → first ≡ replicate 257 0 → length next ≡ 2048 → left ≡ replicate 257 0
    → Chained arrows first next left 0
unfolding Count
chained_none {arrows} {first} {next} f n e = record {
  within = omega arith;
  chains = chains_none (from_of arrows) first next f n;
  counts = record { long = ap length e ∙ length-replicate {A = ℕ} 257 0; count = λ s _. ap (λ (l : List ℕ). get_or l s 0) e ∙ read_noughts 257 s };
}

-- the arrow at place i comes next, from u to v
pub record NextArrow (arrows : List (List ℕ)) (first next left : List ℕ) (i u v : ℕ) : Type 0 where
  pub so_far : Chained arrows first next left i
  pub roomy : Roomy arrows
  pub inside : i < length arrows
  pub begins : u ≡ from_of arrows i
  pub arrives : v ≡ to_of arrows i

module _ {arrows : List (List ℕ)} {first next left : List ℕ} {i u v : ℕ} (h : NextArrow arrows first next left i u v) where
  pub from_in : u < 257
  from_in = omega (arith, h.begins, h.roomy.from_small i h.inside)

  pub to_in : v < 257
  to_in = omega (arith, h.arrives, h.roomy.to_small i h.inside)

  pub place_in : i < 2048
  place_in = omega (arith, h.inside, h.roomy.few)

  pub count_in : get_or left v 0 ≤ i
  count_in = count_most (λ a. to_of arrows a ≡ v) i (get_or left v 0) (h.so_far.counts.count v to_in)

  counts_more : ArrowsTo arrows (set left v (get_or left v 0 + 1)) (i + 1)
  counts_more =
      let c = h.so_far.counts in
      let n : i + 1 ≡ suc i = omega arith in
      record {
        long = length-set left v _ ∙ c.long;
        count = λ s l. rw n (read_set (λ k. Count (λ a. to_of arrows a ≡ s) (suc i) k) left v (get_or left v 0 + 1) s (omega (arith, c.long, to_in))
            (λ q. rw q (count_also (λ a. to_of arrows a ≡ v) i (get_or left v 0) (sym h.arrives) (c.count v to_in)))
            (λ q. count_but (λ a. to_of arrows a ≡ s) i (get_or left s 0) (λ z. q (sym z ∙ sym h.arrives)) (c.count s l)));
      }

  pub chained_more : Chained arrows (set first u (i + 1)) (set next i (get_or first u 0)) (set left v (get_or left v 0 + 1)) (i + 1)
  chained_more = record {
    within = omega (arith, h.inside);
    chains = chains_more (from_of arrows) first next i u h.begins from_in place_in h.so_far.chains;
    counts = counts_more;
  }

pub chained_all : {arrows : List (List ℕ)} {first next left : List ℕ} {i : ℕ} → Chained arrows first next left i → length arrows ≤ i
    → Chains (from_of arrows) first next (length arrows) × ArrowsTo arrows left (length arrows)
chained_all {arrows} {i = i} h m = let e : length arrows ≡ i = omega (arith, h.within) in (rw e h.chains, rw e h.counts)
