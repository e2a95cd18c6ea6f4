-- A longest path exists, and the heaviest path to a subtask grows along every arrow. Assumes nothing.
use Rattle.std.proofs.Common.{◌≡◌, refl, ◌⊎◌, inl, inr, List, ℕ, zero, suc, ◌+◌, ◌≤◌, ◌<◌, max, arith, length}
use Rattle.std.proofs.Math.Logic.{by_cases}
use Rattle.std.proofs.Math.Decide.{dec_le, ℕ_discrete}
use Rattle.terms.specs.Graphs.{IsSubtask, time_of, from_of, to_of, Precedes}
use Rattle.terms.specs.Paths.{PathTo, alone, along, weight, IsLongest}
use Rattle.theory.specs.Sound.{SoundGraph}
use Rattle.theory.proofs.Accepted.{from_subtask, to_subtask}
use Rattle.terms.specs.Sums.{sum}
use Rattle.theory.specs.Counting.{bit}
use Rattle.theory.proofs.Sums.{sum_le, sum_add, sum_const, own_one}
use Rattle.theory.proofs.Search.{largest}
use Rattle.theory.proofs.Paths.{visits, visits_once, end_subtask}

-- a or b, by a decision
abbrev pick : {A : Type 0} → Dec A → ℕ → ℕ → ℕ
pick (yes x) a b = a
pick (no h) a b = b

-- the largest of f over the predecessors of j by the first k arrows, 0 where there are none
most_into : List (List ℕ) → (ℕ → ℕ) → ℕ → ℕ → ℕ
most_into arrows f j zero = 0
most_into arrows f j (suc k) =
    let m : ℕ = most_into arrows f j k in
    let r : ℕ = max m (f (from_of arrows k)) in
    pick (ℕ_discrete (to_of arrows k) j) r m

-- the heaviest path of at most d subtasks that ends in j
pub heaviest : List ℕ → List (List ℕ) → ℕ → ℕ → ℕ
heaviest times arrows zero j = 0
heaviest times arrows (suc d) j = time_of times j + most_into arrows (heaviest times arrows d) j (length arrows)

module _ (arrows : List (List ℕ)) (f : ℕ → ℕ) (j : ℕ) where
  into_least : (k a : ℕ) → a < k → to_of arrows a ≡ j → f (from_of arrows a) ≤ most_into arrows f j k
  unfolding most_into
  into_least zero a l e = absurd (omega arith)
  into_least (suc k) a l e = go (ℕ_discrete (to_of arrows k) j) (into_least k a)
    where
      go : (d : Dec (to_of arrows k ≡ j)) → (a < k → to_of arrows a ≡ j → f (from_of arrows a) ≤ most_into arrows f j k)
          → f (from_of arrows a) ≤ pick d (max (most_into arrows f j k) (f (from_of arrows k))) (most_into arrows f j k)
      go (yes x) r = by_cases (ℕ_discrete a k) (λ y. rw y (omega arith)) (λ y. omega (arith, r (omega arith) e))
      go (no x) r = by_cases (ℕ_discrete a k) (λ y. absurd (x (rw y at e))) (λ y. r (omega arith) e)

  -- m is 0 or is reached by one of the first k arrows
  Reached : ℕ → ℕ → Type 0
  Reached k m = (m ≡ 0) ⊎ ((a : ℕ) × (a < k) × (to_of arrows a ≡ j) × (f (from_of arrows a) ≡ m))

  into_reach : (k : ℕ) → Reached k (most_into arrows f j k)
  unfolding most_into Reached
  into_reach zero = inl refl
  into_reach (suc k) = go (ℕ_discrete (to_of arrows k) j) (into_reach k)
    where
      go : (d : Dec (to_of arrows k ≡ j)) → Reached k (most_into arrows f j k)
          → Reached (suc k) (pick d (max (most_into arrows f j k) (f (from_of arrows k))) (most_into arrows f j k))
      go (no x) (inl z) = inl z
      go (no x) (inr (a, l, e, q)) = inr (a, omega arith, e, q)
      go (yes x) (inl z) = inr (k, omega arith, x, omega arith)
      go (yes x) (inr (a, l, e, q)) = by_cases (dec_le (most_into arrows f j k) (f (from_of arrows k)))
          (λ y. inr (k, omega arith, x, omega arith)) (λ y. inr (a, omega arith, e, omega arith))

-- how many subtasks a path has
len : {times : List ℕ} {arrows : List (List ℕ)} {j : ℕ} → PathTo times arrows j → ℕ
len (alone j s) = 1
len (along p j a) = len p + 1

module _ {times : List ℕ} {arrows : List (List ℕ)} (g : SoundGraph times arrows) where
  len_visits : {j : ℕ} (p : PathTo times arrows j) → len p ≤ sum (length times) (λ i. visits p (suc i))
  unfolding len visits
  len_visits (alone j s) = own_one (length times) j s
  len_visits (along p j a) =
      let x = len_visits p in
      let y = own_one (length times) j (to_subtask g a) in
      let z = sum_add (length times) (λ i. visits p (suc i)) (λ i. bit (ℕ_discrete (suc i) j)) in
      omega arith

  len_most : {j : ℕ} (p : PathTo times arrows j) → len p ≤ length times
  len_most p =
      let x = len_visits p in
      let y : sum (length times) (λ i. visits p (suc i)) ≤ sum (length times) (λ i. 1) = sum_le (length times) _ _ (λ i l. visits_once g p (suc i)) in
      omega (arith, sum_const (length times) 1)

  path_heavy : {j : ℕ} (p : PathTo times arrows j) (d : ℕ) → len p ≤ d → weight p ≤ heaviest times arrows d j
  unfolding len weight heaviest
  path_heavy (alone j s) zero l = absurd (omega arith)
  path_heavy (alone j s) (suc d) l = omega arith
  path_heavy (along p j a) zero l = absurd (omega arith)
  path_heavy (along {i = i} p j a) (suc d) l =
      let x = path_heavy p d (omega arith) in
      let y : heaviest times arrows d i ≤ most_into arrows (heaviest times arrows d) j (length arrows) =
      rw a.begins at (into_least arrows (heaviest times arrows d) j (length arrows) a.place a.inside a.arrives) in
      omega arith

  -- where f is reached by paths to the predecessors, the time of j after the most of f into j is reached by a path to j
  extend : (f : ℕ → ℕ) → ((i : ℕ) → IsSubtask times i → (f i ≡ 0) ⊎ ((p : PathTo times arrows i) × (weight p ≡ f i)))
      → (j : ℕ) → IsSubtask times j → (p : PathTo times arrows j) × (weight p ≡ time_of times j + most_into arrows f j (length arrows))
  unfolding weight Reached
  extend f paths j s = go (into_reach arrows f j (length arrows))
    where
      by_arrow : (m i : ℕ) → Precedes arrows i j → f i ≡ m → (f i ≡ 0) ⊎ ((p : PathTo times arrows i) × (weight p ≡ f i))
          → (p : PathTo times arrows j) × (weight p ≡ time_of times j + m)
      by_arrow m i w q (inl z) = (alone j s, omega arith)
      by_arrow m i w q (inr (p, e)) = (along p j w, omega arith)

      go : Reached arrows f j (length arrows) (most_into arrows f j (length arrows))
          → (p : PathTo times arrows j) × (weight p ≡ time_of times j + most_into arrows f j (length arrows))
      go (inl z) = (alone j s, omega arith)
      go (inr (a, l, e, q)) =
          let w : Precedes arrows (from_of arrows a) j = record { place = a; inside = l; begins = refl; arrives = e } in
          by_arrow (most_into arrows f j (length arrows)) (from_of arrows a) w q (paths (from_of arrows a) (from_subtask g w))

  heavy_path : (d j : ℕ) → IsSubtask times j → (p : PathTo times arrows j) × (weight p ≡ heaviest times arrows (suc d) j)
  unfolding heaviest
  heavy_path zero = extend (heaviest times arrows zero) (λ i s. inl refl)
  heavy_path (suc d) = extend (heaviest times arrows (suc d)) (λ i s. inr (heavy_path d i s))

  -- the heaviest path of all that end in j
  whole_path : (j : ℕ) → IsSubtask times j → (p : PathTo times arrows j) × (weight p ≡ heaviest times arrows (length times) j)
  whole_path j s = go (length times) refl
    where
      go : (n : ℕ) → length times ≡ n → (p : PathTo times arrows j) × (weight p ≡ heaviest times arrows (length times) j)
      go zero e = absurd (omega (arith, g.count.low))
      go (suc n) e = rw e (heavy_path n j s)

  -- along an arrow it grows
  pub arrow_rises : (i j : ℕ) → Precedes arrows i j → heaviest times arrows (length times) i < heaviest times arrows (length times) j
  unfolding weight
  arrow_rises i j w =
      let r = whole_path i (from_subtask g w) in
      omega (arith, r.1, path_heavy (along r.0 j w) (length times) (len_most (along r.0 j w)), g.positive j (to_subtask g w))

  -- every accepted graph has a longest path
  pub longest_exists : (P : ℕ) × IsLongest times arrows P
  longest_exists =
      let top = largest (length times) (heaviest times arrows (length times)) g.count.low in
      let r = whole_path top.0 top.1 in (
        heaviest times arrows (length times) top.0,
        record {
          reached = (top.0, r.0, r.1);
          most = λ j p. omega (arith, path_heavy p (length times) (len_most p), top.2 j (end_subtask g p));
        },
      )
