-- Whether arrows lead from one number to another can be decided, through more and more numbers between. Assumes nothing.
use Rattle.std.proofs.Common.{◌≡◌, ◌⊎◌, inl, inr, List, ℕ, zero, suc, ◌<◌, arith, length}
use mathlib.Core.Logic.Dec
use Rattle.std.proofs.Math.Logic.{by_cases}
use Rattle.std.proofs.Math.Decide.{dec_lt}
use Rattle.terms.specs.Graphs.{from_of, Precedes, LeadsTo, step, more}
use Rattle.terms.specs.Sums.{sum}
use Rattle.terms.proofs.Decide.{via}
use Rattle.theory.proofs.Sums.{sum_term}
use Rattle.theory.proofs.Running.{dec_precedes}

dec_either : {A B : Type 0} → Dec A → Dec B → Dec (A ⊎ B)
dec_either (yes a) d = yes (inl a)
dec_either (no h) (yes b) = yes (inr b)
dec_either {A} {B} (no h) (no g) = no neither
  where
    neither : A ⊎ B → ⊥
    neither (inl a) = h a
    neither (inr b) = g b

module _ (arrows : List (List ℕ)) where
  -- i leads to j, by one arrow or through numbers below k
  unfoldable Through : ℕ → ℕ → ℕ → Type 0
  Through zero i j = Precedes arrows i j
  Through (suc k) i j = Through k i j ⊎ (Through k i k × Through k k j)

  dec_through : (k i j : ℕ) → Dec (Through k i j)
  unfolding Through
  dec_through zero i j = dec_precedes arrows i j
  dec_through (suc k) i j = dec_either (dec_through k i j) (Dec.and (dec_through k i k) (dec_through k k j))

  pub leads_on : {i k j : ℕ} → LeadsTo arrows i k → LeadsTo arrows k j → LeadsTo arrows i j
  leads_on l (step w) = more l w
  leads_on l (more m w) = more (leads_on l m) w

  through_leads : (k : ℕ) {i j : ℕ} → Through k i j → LeadsTo arrows i j
  unfolding Through
  through_leads zero w = step w
  through_leads (suc k) (inl x) = through_leads k x
  through_leads (suc k) (inr (x, y)) = leads_on (through_leads k x) (through_leads k y)

  along_arrow : (k : ℕ) {i j : ℕ} → Precedes arrows i j → Through k i j
  unfolding Through
  along_arrow zero w = w
  along_arrow (suc k) w = inl (along_arrow k w)

  -- two ways that meet at a number below k
  joined : (k i m j : ℕ) → m < k → Through k i m → Through k m j → Through k i j
  unfolding Through
  joined zero i m j l x y = absurd (omega (arith, l))
  joined (suc k) i m j l x y = by_cases (dec_lt m k) (λ b. below (λ v w. joined k v m w b) x y)
      (λ b. let e : m ≡ k = omega (arith, l, b) in inr (to_k (rw e at x), from_k (rw e at y)))
    where
      to_k : Through k i k ⊎ (Through k i k × Through k k k) → Through k i k
      to_k (inl x) = x
      to_k (inr (x, z)) = x

      from_k : Through k k j ⊎ (Through k k k × Through k k j) → Through k k j
      from_k (inl y) = y
      from_k (inr (z, y)) = y

      below : ((v w : ℕ) → Through k v m → Through k m w → Through k v w) → Through k i m ⊎ (Through k i k × Through k k m)
          → Through k m j ⊎ (Through k m k × Through k k j) → Through k i j ⊎ (Through k i k × Through k k j)
      below by-m (inl x) (inl y) = inl (by-m i j x y)
      below by-m (inl x) (inr (y, z)) = inr (by-m i k x y, z)
      below by-m (inr (x, z)) (inl y) = inr (x, by-m k j z y)
      below by-m (inr (x, z)) (inr (y, v)) = inr (x, v)

  -- more than any number from which an arrow comes
  above : ℕ
  above = suc (sum (length arrows) (from_of arrows))

  from_below : {i j : ℕ} → Precedes arrows i j → i < above
  unfolding above
  from_below w = omega (arith, sum_term (length arrows) (from_of arrows) w.place w.inside, w.begins)

  leads_through : {i j : ℕ} → LeadsTo arrows i j → Through above i j
  leads_through (step w) = along_arrow above w
  leads_through {i} (more {k = k} {j = j} l w) = joined above i k j (from_below w) (leads_through l) (along_arrow above w)

  pub dec_leads : (i j : ℕ) → Dec (LeadsTo arrows i j)
  dec_leads i j = via (through_leads above) leads_through (dec_through above i j)
