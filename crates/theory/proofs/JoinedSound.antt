-- The joined graph is without fault, and accepted where it is within the limits; C adds. Assumes nothing.
use Rattle.std.proofs.Common.{◌≡◌, refl, ap, ◌∙◌, ◌⊎◌, inl, inr, List, [], ◌∷◌, ◌++◌, ℕ, suc, ◌+◌, ◌-◌, ◌≤◌, ◌<◌, arith, length, get_or, length-append}
use Rattle.terms.specs.Sums.{sum}
use Rattle.terms.specs.Graphs.{IsSubtask, time_of, LeadsTo, step, more}
use Rattle.terms.specs.Paths.{total_work}
use Rattle.terms.specs.Joins.{Graph, size, Way, joined, WithinLimits}
use Rattle.theory.specs.Joined.{IsAccepted, Faultless, JoinedArrow, of_first, of_second, between}
use Rattle.theory.proofs.Sums.{sum_first, sum_eq}
use Rattle.theory.proofs.Faultless.{accepted_faultless, accepted, from_named, to_named}
use Rattle.theory.proofs.JoinedArrows.{which, time_first, time_second, joined_named, joined_is, joined_once}

-- where an arrow or more of the joined graph lead: within the first, from the first to the second, or within the second
data Leads (a b : Graph) (x y : ℕ) : Type 0 where
  in_first : x ≤ size a → y ≤ size a → LeadsTo a.arrows x y → Leads a b x y
  across : x ≤ size a → size a < y → Leads a b x y
  in_second : (i j : ℕ) → x ≡ size a + i → y ≡ size a + j → 1 ≤ j → LeadsTo b.arrows i j → Leads a b x y

module _ (way : Way) {a b : Graph} (f : Faultless a) (g : Faultless b) where
  first_leads : {x y : ℕ} → JoinedArrow way a b x y → Leads a b x y
  first_leads (of_first w) = in_first (from_named f w).high (to_named f w).high (step w)
  first_leads (of_second i j w p q) = in_second i j p q (to_named g w).low (step w)
  first_leads (between j e s t q) = across s.is_subtask.high (omega (arith, q, t.is_subtask.low))

  leads_on : {x y z : ℕ} → Leads a b x y → JoinedArrow way a b y z → Leads a b x z
  leads_on (in_first l m r) (of_first w) = in_first l (to_named f w).high (more r w)
  leads_on (in_first l m r) (of_second i j w p q) = absurd (omega (arith, m, p, (from_named g w).low))
  leads_on (in_first l m r) (between j e s t q) = across l (omega (arith, q, t.is_subtask.low))
  leads_on (across l m) (of_first w) = absurd (omega (arith, m, (from_named f w).high))
  leads_on (across l m) (of_second i j w p q) = across l (omega (arith, q, (to_named g w).low))
  leads_on (across l m) (between j e s t q) = absurd (omega (arith, m, s.is_subtask.high))
  leads_on (in_second i j p q m r) (of_first w) = absurd (omega (arith, q, m, (from_named f w).high))
  leads_on (in_second i j p q m r) (of_second k n w u v) =
      let e : k ≡ j = omega (arith, q, u) in
      in_second i n p v (to_named g w).low (more r (rw e at w))
  leads_on (in_second i j p q m r) (between n e s t u) = absurd (omega (arith, q, m, s.is_subtask.high))

  leads : {x y : ℕ} → LeadsTo (joined way a b).arrows x y → Leads a b x y
  leads (step w) = first_leads (joined_is way f g w)
  leads (more r w) = leads_on (leads r) (joined_is way f g w)

  no_cycle : {x : ℕ} → ¬ Leads a b x x
  no_cycle (in_first l m r) = f.acyclic _ r
  no_cycle (across l m) = omega (arith, l, m)
  no_cycle (in_second i j p q m r) = let e : i ≡ j = omega (arith, p, q) in g.acyclic j (rw e at r)

  time_positive : (x : ℕ) → IsSubtask a.times x ⊎ ((j : ℕ) × IsSubtask b.times j × (x ≡ size a + j)) → 1 ≤ time_of (joined way a b).times x
  time_positive x (inl s) = omega (arith, time_first a b x s, f.positive x s)
  time_positive x (inr (j, s, e)) = rw e (omega (arith, time_second a b j s, g.positive j s))

  -- joins keep a graph without fault
  pub joined_faultless : Faultless (joined way a b)
  joined_faultless = record {
    some = omega (arith, f.some, length-append a.times b.times);
    positive = λ x s. time_positive x (which a b s);
    named = λ p l. joined_named way f g (joined_is way f g (record { place = p; inside = l; begins = refl; arrives = refl }));
    once = λ p q l m e. joined_once way a b q m (record { earlier = p; before = l; same_from = e.0; same_to = e.1 });
    acyclic = λ j l. no_cycle (leads l);
  }

-- within the limits it is accepted
pub joined_accepted : (way : Way) (a b : Graph) → IsAccepted a → IsAccepted b → WithinLimits (joined way a b) → IsAccepted (joined way a b)
joined_accepted way a b p q l = accepted (joined way a b) (joined_faultless way (accepted_faultless a p) (accepted_faultless b q)) l

-- C adds, whatever the graphs are
total_more : (x : ℕ) (xs : List ℕ) → total_work (x ∷ xs) ≡ x + total_work xs
unfolding total_work time_of
total_more x xs = sum_first (length xs) (λ i. time_of (x ∷ xs) (suc i)) ∙ ap (λ (k : ℕ). x + k) (sum_eq (length xs) _ _ (λ i l. later i))
  where
    later : (i : ℕ) → time_of (x ∷ xs) (suc (suc i)) ≡ time_of xs (suc i)
    later i = let e : suc (suc i) - 1 ≡ suc (suc i - 1) = omega arith in ap (λ (k : ℕ). get_or (x ∷ xs) k 0) e

total_append : (xs ys : List ℕ) → total_work (xs ++ ys) ≡ total_work xs + total_work ys
unfolding total_work sum
total_append [] ys = omega arith
total_append (x ∷ xs) ys = omega (arith, total_append xs ys, total_more x xs, total_more x (xs ++ ys))

pub joined_work : (way : Way) (a b : Graph) → total_work (joined way a b).times ≡ total_work a.times + total_work b.times
joined_work way a b = total_append a.times b.times
