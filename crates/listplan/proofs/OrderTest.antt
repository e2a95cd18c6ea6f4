-- A row of marks for the subtasks that an order has named so far: it tells whether one stands twice. Assumes nothing.
use Rattle.std.proofs.Common.{◌≡◌, ◌≢◌, refl, sym, ap, ◌∙◌, List, ℕ, ◌+◌, ◌≤◌, ◌<◌, Bool, true, false, length, get_or, set, replicate, length-set, arith}
use Rattle.std.proofs.Math.Decide.{ℕ_discrete}
use Rattle.std.proofs.Math.ListN.{length-replicate}
use Rattle.std.proofs.Math.Logic.{by_cases}
use Rattle.terms.specs.Graphs.{IsSubtask}
use Rattle.terms.specs.ListRule.{IsOrder}
use Rattle.listplan.proofs.Bits.{read_bit, all_unmarked}

-- the first x of the order are subtasks, each once, and just these are marked
pub record Named (times order : List ℕ) (seen : List Bool) (x : ℕ) : Type 0 where
  pub within : x ≤ length order
  pub long : length seen ≡ 257
  pub each : (y : ℕ) → y < x → IsSubtask times (get_or order y 0)
  pub once : (y z : ℕ) → y < z → z < x → get_or order y 0 ≢ get_or order z 0
  pub marked : (y : ℕ) → y < x → get_or seen (get_or order y 0) false ≡ true
  pub known : (s : ℕ) → get_or seen s false ≡ true → (y : ℕ) × (y < x) × (get_or order y 0 ≡ s)

pub none_named : {times order : List ℕ} → Named times order (replicate 257 false) 0
none_named = record {
  within = omega arith;
  long = length-replicate {A = Bool} 257 false;
  each = λ y l. absurd (omega arith);
  once = λ y z l m. absurd (omega arith);
  marked = λ y l. absurd (omega arith);
  known = λ s e. absurd (none s e);
}
  where
    none : (s : ℕ) → ¬ (◌≡◌ {A = Bool} (get_or (replicate 257 false) s false) true)
    none s e = let z : get_or (replicate 257 false) s false ≡ false = all_unmarked 257 s in cc

-- place x of the order, that of number j, comes next
pub record NextNamed (times order : List ℕ) (seen : List Bool) (x j : ℕ) : Type 0 where
  pub so_far : Named times order seen x
  pub inside : x < length order
  pub stands : j ≡ get_or order x 0

module _ {times order : List ℕ} {seen : List Bool} {x j : ℕ} (here : NextNamed times order seen x j) where
  h : Named times order seen x
  h = here.so_far

  l : x < length order
  l = here.inside

  e : j ≡ get_or order x 0
  e = here.stands

  pub named_more : length times ≤ 256 → 1 ≤ j → j ≤ length times → get_or seen j false ≢ true → Named times order (set seen j true) (x + 1)
  named_more b low high new = record {
    within = omega (arith, l);
    long = length-set seen j true ∙ h.long;
    each = λ y m. by_cases (ℕ_discrete y x) (λ c. rw (same y c) (record { low = low; high = high })) (λ c. h.each y (omega arith));
    once = λ y z m n c. by_cases (ℕ_discrete z x)
        (λ d. new (rw (c ∙ same z d) at (h.marked y (omega arith))))
        (λ d. h.once y z m (omega arith) c);
    marked = λ y m. read_bit (λ k. k ≡ true) seen j true (get_or order y 0) room (λ _. refl)
        (λ c. by_cases (ℕ_discrete y x) (λ d. absurd (c (same y d))) (λ d. h.marked y (omega arith)));
    known = λ k. read_bit (λ z. z ≡ true → (y : ℕ) × (y < x + 1) × (get_or order y 0 ≡ k)) seen j true k room
        (λ c _. (x, omega arith, sym (c ∙ e)))
        (λ c d. let r = h.known k d in (r.0, omega (arith, r.1), r.2));
  }
    where
      same : (y : ℕ) → y ≡ x → get_or order y 0 ≡ j
      same y c = ap (λ (k : ℕ). get_or order k 0) c ∙ sym e

      room : j < length seen
      room = omega (arith, h.long)

  pub not_outside : ¬ IsSubtask times j → ¬ IsOrder times order
  not_outside d o = d (rw e (o.each x l))

  pub not_twice : get_or seen j false ≡ true → ¬ IsOrder times order
  not_twice d o = let r = h.known j d in o.once r.0 x r.1 l (r.2 ∙ e)

pub all_named : {times order : List ℕ} {seen : List Bool} {x : ℕ} → Named times order seen x → length order ≡ length times → length order ≤ x → IsOrder times order
all_named h e l = record { whole = e; each = λ y m. h.each y (omega arith); once = λ y z m n. h.once y z m (omega arith) }
