-- The ranks and the first marks grow by a place of the order. Assumes nothing.
use Rattle.std.proofs.Common.{◌≡◌, refl, sym, ap, ◌∙◌, ◌≢◌, List, Bool, true, false, ℕ, ◌+◌, ◌≤◌, ◌<◌, arith, length, get_or, set, replicate, length-set}
use Rattle.std.proofs.Math.Decide.{ℕ_discrete}
use Rattle.std.proofs.Math.ListN.{length-replicate}
use Rattle.std.proofs.Math.Logic.{by_cases}
use Rattle.theory.proofs.Stores.{read_set}
use Rattle.listplan.specs.Tables.{Distinct, Ranks, Mark, Sources}
use Rattle.listplan.proofs.Bits.{read_bit, all_unmarked, none_true}

-- the first x places of the order are marked where no arrow goes to their subtask, the others are not
pub record Ranked (order left rank : List ℕ) (R : List Bool) (x : ℕ) : Type 0 where
  pub within : x ≤ length order
  pub ranks : Ranks order rank x
  pub sources : Sources order left R x
  pub blank : (y : ℕ) → x ≤ y → get_or R y false ≡ false

pub ranked_none : {order left rank : List ℕ} {R : List Bool} → length rank ≡ 257 → R ≡ replicate 256 false → Ranked order left rank R 0
ranked_none r e = record {
  within = omega arith;
  ranks = record { long = r; stands = λ x l. absurd (omega arith) };
  sources = record { long = ap length e ∙ length-replicate {A = Bool} 256 false; marks = λ x m. absurd (omega arith) };
  blank = λ y m. ap (λ (row : List Bool). get_or row y false) e ∙ all_unmarked 256 y;
}

-- place x of the order, that of subtask j, comes next
pub record NextPlace (order left rank : List ℕ) (R : List Bool) (x j : ℕ) : Type 0 where
  pub so_far : Ranked order left rank R x
  pub distinct : Distinct order
  pub inside : x < length order
  pub stands : j ≡ get_or order x 0

module _ {order left rank : List ℕ} {R : List Bool} {x j : ℕ} (here : NextPlace order left rank R x j) where
  h : Ranked order left rank R x
  h = here.so_far

  d : Distinct order
  d = here.distinct

  l : x < length order
  l = here.inside

  e : j ≡ get_or order x 0
  e = here.stands

  pub subtask_in : j < 257
  subtask_in = omega (arith, e, d.small x l)

  pub place_in : x < 256
  place_in = omega (arith, l, d.few)

  room : x < length R
  room = omega (arith, h.sources.long, place_in)

  same : (y : ℕ) → y ≡ x → get_or order y 0 ≡ j
  same y q = ap (λ (k : ℕ). get_or order k 0) q ∙ sym e

  ranks_more : Ranks order (set rank j x) (x + 1)
  ranks_more = record {
    long = length-set rank j x ∙ h.ranks.long;
    stands = λ y m. read_set (λ z. z ≡ y) rank j x (get_or order y 0) (omega (arith, h.ranks.long, subtask_in))
        (λ q. by_cases (ℕ_discrete y x) (λ z. sym z) (λ z. absurd (d.once y x (omega arith) l (q ∙ e))))
        (λ q. by_cases (ℕ_discrete y x) (λ z. absurd (q (same y z))) (λ z. h.ranks.stands y (omega arith)));
  }

  pub source : get_or left j 0 ≡ 0 → Ranked order left (set rank j x) (set R x true) (x + 1)
  source z = record {
    within = omega (arith, l);
    ranks = ranks_more;
    sources = record {
      long = length-set R x true ∙ h.sources.long;
      marks = λ y m. read_bit (λ k. Mark (get_or left (get_or order y 0) 0) k) R x true y room
          (λ q. rw (same y q) (record { none = λ _. z; marked = λ _. refl }))
          (λ q. h.sources.marks y (omega arith));
    };
    blank = λ y m. read_bit (λ k. k ≡ false) R x true y room (λ q. absurd (omega arith)) (λ q. h.blank y (omega arith));
  }

  pub other : get_or left j 0 ≢ 0 → Ranked order left (set rank j x) R (x + 1)
  other n = record {
    within = omega (arith, l);
    ranks = ranks_more;
    sources = record {
      long = h.sources.long;
      marks = λ y m. by_cases (ℕ_discrete y x)
          (λ q. rw (same y q) (record { none = λ w. absurd (none_true (h.blank y (omega arith)) w); marked = λ w. absurd (n w) }))
          (λ q. h.sources.marks y (omega arith));
    };
    blank = λ y m. h.blank y (omega arith);
  }

pub ranked_all : {order left rank : List ℕ} {R : List Bool} {x : ℕ} → Ranked order left rank R x → length order ≤ x
    → Ranks order rank (length order) × Sources order left R (length order)
ranked_all {order} {x = x} h m = let e : length order ≡ x = omega (arith, h.within) in (rw e h.ranks, rw e h.sources)
