-- P of the joined graph: end to end P adds, side by side it is the larger of the two. Assumes nothing.
use Rattle.std.proofs.Common.{◌≡◌, refl, ◌⊎◌, inl, inr, ℕ, ◌+◌, ◌≤◌, ◌<◌, max, arith}
use Rattle.std.proofs.Math.Logic.{by_cases}
use Rattle.std.proofs.Math.Decide.{dec_le}
use Rattle.terms.specs.Graphs.{IsSubtask, time_of, Precedes}
use Rattle.terms.specs.Paths.{PathTo, alone, along, weight, IsLongest}
use Rattle.terms.specs.Joins.{Graph, size, Way, end_to_end, side_by_side, joined}
use Rattle.theory.specs.Joined.{IsAccepted, Faultless, IsLast, IsFirst, JoinedArrow, of_first, of_second, between}
use Rattle.theory.proofs.Faultless.{accepted_faultless, from_named, to_named}
use Rattle.theory.proofs.JoinedArrows.{first_or, in_first_lem, in_second_lem, which, time_first, time_second, joined_is, is_joined}

-- a path that ends in j
abbrev Path : Graph → ℕ → Type 0
Path g j = PathTo g.times g.arrows j

-- P of a graph
abbrev Longest : Graph → ℕ → Type 0
Longest g P = IsLongest g.times g.arrows P

ends_in : {g : Graph} {j : ℕ} → Faultless g → Path g j → IsSubtask g.times j
ends_in f (alone j s) = s
ends_in f (along p j w) = to_named f w

module _ (way : Way) {a b : Graph} (f : Faultless a) (g : Faultless b) where
  -- a path of the first is one of the joined graph, and so is one of the second
  path_first : {x : ℕ} (p : Path a x) → (q : Path (joined way a b) x) × (weight q ≡ weight p)
  unfolding weight
  path_first (alone x s) = (alone x (in_first_lem a b s), time_first a b x s)
  path_first (along p x w) =
      let r = path_first p in
      (along r.0 x (is_joined way f g (of_first w)), omega (arith, r.1, time_first a b x (to_named f w)))

  path_second : {j : ℕ} (p : Path b j) → (q : Path (joined way a b) (size a + j)) × (weight q ≡ weight p)
  unfolding weight
  path_second (alone j s) = (alone (size a + j) (in_second_lem a b s refl), time_second a b j s)
  path_second (along {i = i} p j w) =
      let r = path_second p in
      (along r.0 (size a + j) (is_joined way f g (of_second i j w refl refl)), omega (arith, r.1, time_second a b j (to_named g w)))

  -- a path of the joined graph is one of the first, or weighs at most K more than one of the second
  data Parts (K y W : ℕ) : Type 0 where
    in_first : (q : Path a y) → W ≡ weight q → Parts K y W
    in_second : (j : ℕ) → y ≡ size a + j → (q : Path b j) → W ≤ K + weight q → Parts K y W

  -- end to end K is what the first's paths weigh
  module _ (K : ℕ) (before : way ≡ end_to_end → (i : ℕ) (q : Path a i) → weight q ≤ K) where
    lone_part : {y : ℕ} → IsSubtask a.times y ⊎ ((j : ℕ) × IsSubtask b.times j × (y ≡ size a + j)) → Parts K y (time_of (joined way a b).times y)
    unfolding weight
    lone_part {y} (inl s) = in_first (alone y s) (time_first a b y s)
    lone_part {y} (inr (j, s, e)) = in_second j e (alone j s) (rw e (omega (arith, time_second a b j s)))

    part_on : {x y W : ℕ} → Parts K x W → JoinedArrow way a b x y → Parts K y (W + time_of (joined way a b).times y)
    unfolding weight
    part_on {x} {y} (in_first q h) (of_first w) = in_first (along q y w) (omega (arith, time_first a b y (to_named f w)))
    part_on (in_first q h) (of_second i j w u v) = absurd (omega (arith, (ends_in f q).high, (from_named g w).low))
    part_on {x} {y} (in_first q h) (between j e s t v) =
        in_second j v (alone j t.is_subtask) (rw v (omega (arith, before e x q, time_second a b j t.is_subtask)))
    part_on (in_second j e q h) (of_first w) = absurd (omega (arith, (ends_in g q).low, (from_named f w).high))
    part_on (in_second j e q h) (of_second i k w u v) =
        let d : i ≡ j = omega arith in
        in_second k v (along q k (rw d at w)) (rw v (omega (arith, time_second a b k (to_named g w))))
    part_on (in_second j e q h) (between k d s t v) = absurd (omega (arith, (ends_in g q).low, s.is_subtask.high))

    parts : {y : ℕ} (p : Path (joined way a b) y) → Parts K y (weight p)
    unfolding weight
    parts (alone y s) = lone_part (which a b s)
    parts (along p y w) = part_on (parts p) (joined_is way f g w)

-- a longest path ends in a subtask without successors
longest_last : {g : Graph} {P j : ℕ} → Faultless g → Longest g P → (p : Path g j) → weight p ≡ P → IsLast g j
unfolding weight
longest_last f l p e =
    record { is_subtask = ends_in f p; without = λ k w. omega (arith, l.most k (along p k w), f.positive k (to_named f w), e) }

module _ {a b : Graph} (f : Faultless a) (g : Faultless b) where
  -- a path of the second is put behind one of the first, or there is a heavier one
  data After (K j W : ℕ) : Type 0 where
    behind : (r : Path (joined end_to_end a b) (size a + j)) → weight r ≡ K + W → After K j W
    heavier : (r : Path b j) → W < weight r → After K j W

  path_after : {x j : ℕ} (p : Path (joined end_to_end a b) x) → IsLast a x → (q : Path b j) → After (weight p) j (weight q)
  unfolding weight
  path_after p s (alone j t) = go (first_or g j t)
    where
      go : IsFirst b j ⊎ ((i : ℕ) × Precedes b.arrows i j) → After (weight p) j (time_of b.times j)
      go (inl u) = behind (along p (size a + j) (is_joined end_to_end f g (between j refl s u refl))) (omega (arith, time_second a b j t))
      go (inr (i, w)) = heavier (along (alone i (from_named g w)) j w) (omega (arith, g.positive i (from_named g w)))
  path_after p s (along {i = i} q j w) = go (path_after p s q)
    where
      go : After (weight p) i (weight q) → After (weight p) j (weight q + time_of b.times j)
      go (behind r e) =
          behind (along r (size a + j) (is_joined end_to_end f g (of_second i j w refl refl))) (omega (arith, e, time_second a b j (to_named g w)))
      go (heavier r l) = heavier (along r j w) (omega (arith, l))

  pub longest_end_to_end : {P Q : ℕ} → Longest a P → Longest b Q → Longest (joined end_to_end a b) (P + Q)
  longest_end_to_end {P} {Q} l m = record { reached = reach; most = λ y p. at_most (parts end_to_end f g P (λ e i q. l.most i q) p) }
    where
      at_most : {y W : ℕ} → Parts end_to_end f g P y W → W ≤ P + Q
      at_most (in_first q e) = omega (arith, e, l.most _ q)
      at_most (in_second j e q h) = omega (arith, h, m.most _ q)

      reach : (j : ℕ) × (p : Path (joined end_to_end a b) j) × (weight p ≡ P + Q)
      reach =
          let p = path_first end_to_end f g l.reached.1 in
          go p.1 (path_after p.0 (longest_last f l l.reached.1 l.reached.2) m.reached.1)
        where
          go : {K : ℕ} → K ≡ weight l.reached.1 → After K m.reached.0 (weight m.reached.1)
              → (j : ℕ) × (p : Path (joined end_to_end a b) j) × (weight p ≡ P + Q)
          go h (behind r e) = (size a + m.reached.0, r, omega (arith, h, e, l.reached.2, m.reached.2))
          go h (heavier r k) = absurd (omega (arith, k, m.reached.2, m.most _ r))

  pub longest_side_by_side : {P Q : ℕ} → Longest a P → Longest b Q → Longest (joined side_by_side a b) (max P Q)
  longest_side_by_side {P} {Q} l m = record { reached = reach; most = λ y p. at_most (parts side_by_side f g 0 apart p) }
    where
      apart : side_by_side ≡ end_to_end → (i : ℕ) (q : Path a i) → weight q ≤ 0
      apart e i q = absurd (let z : ◌≡◌ {A = ℕ} 0 1 = cc in omega arith)

      at_most : {y W : ℕ} → Parts side_by_side f g 0 y W → W ≤ max P Q
      at_most (in_first q e) = omega (arith, e, l.most _ q)
      at_most (in_second j e q h) = omega (arith, h, m.most _ q)

      reach : (j : ℕ) × (p : Path (joined side_by_side a b) j) × (weight p ≡ max P Q)
      reach =
          let p = path_first side_by_side f g l.reached.1 in
          let q = path_second side_by_side f g m.reached.1 in
          by_cases (dec_le Q P)
          (λ h. (l.reached.0, p.0, omega (arith, h, p.1, l.reached.2)))
          (λ h. (size a + m.reached.0, q.0, omega (arith, h, q.1, m.reached.2)))

-- of accepted graphs
module _ (a b : Graph) (P Q : ℕ) (p : IsAccepted a) (q : IsAccepted b) (l : IsLongest a.times a.arrows P) (m : IsLongest b.times b.arrows Q) where
  pub path_adds : IsLongest (joined end_to_end a b).times (joined end_to_end a b).arrows (P + Q)
  path_adds = longest_end_to_end (accepted_faultless a p) (accepted_faultless b q) l m

  pub path_larger : IsLongest (joined side_by_side a b).times (joined side_by_side a b).arrows (max P Q)
  path_larger = longest_side_by_side (accepted_faultless a p) (accepted_faultless b q) l m
