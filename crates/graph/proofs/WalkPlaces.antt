-- A step of the walk that places u, whose arrows are all passed, and goes back by the last arrow of the way. Assumes nothing.
use Rattle.std.proofs.Common.{◌≡◌, refl, sym, ap, ◌∙◌, ◌≢◌, List, ℕ, ◌+◌, ◌-◌, ◌≤◌, ◌<◌, arith, length, get_or, set, length-set, get_or-set_same, get_or-set_other, below_more}
use Rattle.terms.specs.Graphs.{Among, from_of, to_of}
use Rattle.theory.proofs.Stores.{read_set}
use Rattle.theory.proofs.Tallies.{tally}
use Rattle.graph.specs.Ordered.{StandsBelow}
use Rattle.graph.proofs.Chained.{Looks, looks, along_next, next_less, passed_now}
use Rattle.graph.proofs.Marks.{new, unplaced, kept, fewer_unplaced, same_new}
use Rattle.graph.proofs.Walk.{Climbs, At, Rows, State, left, still_climbs}

module _ {n : ℕ} {arrows : List (List ℕ)} {first next row marks stack : List ℕ} {depth m root u c : ℕ}
    (s : State n arrows first next row marks stack depth m root u c) (ec : c ≡ 0) (nu : u ≢ 0) where
  is : Among 1 n u
  is = (s.at.end nu).0

  high : get_or marks u 0 ≡ depth + 2
  high = (s.at.end nu).1

  inside : u < length marks
  inside = omega (arith, is.high, s.tidy.subtasks, s.long_marks)

  fewer : tally unplaced (set marks u 0) n + 1 ≡ tally unplaced marks n
  fewer = fewer_unplaced marks 0 inside is (omega (arith, high)) refl

  same : tally new (set marks u 0) n ≡ tally new marks n
  same = same_new marks 0 inside is (omega (arith, high)) refl

  pub end_small : (u < 257) × (depth < 256) × (m < 256)
  end_small = (omega (arith, inside, s.long_marks), omega (arith, s.at.room nu, s.tidy.subtasks), omega (arith, s.rows.count, fewer, s.tidy.subtasks))

  placed : get_or (set marks u 0) u 0 ≡ 0
  placed = get_or-set_same marks u 0 0 inside

  still : (v : ℕ) → get_or marks v 0 ≡ 0 → get_or (set marks u 0) v 0 ≡ 0
  still v z = kept marks 0 inside v (λ q. omega (arith, q, high)) z

  -- u was the one with the highest mark
  lower : (v : ℕ) → Among 1 n v → get_or (set marks u 0) v 0 ≤ depth + 1
  lower v t = read_set (λ x. x ≤ depth + 1) marks u 0 v inside (λ _. omega arith)
      (λ q. let ne : get_or marks v 0 ≢ depth + 2 = λ z. q (s.way.alone v u t is (omega (arith, z)) (z ∙ sym high)) in
      omega (arith, ne, s.way.deepest v t))

  rows_place : Rows n arrows (set row m u) (set marks u 0) (m + 1)
  rows_place = record {
    long = length-set row m u ∙ s.rows.long;
    inside = below_more (λ i. Among 1 n (get_or (set row m u) i 0) × (get_or (set marks u 0) (get_or (set row m u) i 0) 0 ≡ 0)) m
        (λ i b. rw (old i b) (let w = s.rows.inside i b in (w.0, still _ w.1)))
        (rw last (is, placed));
    there = λ v t. read_set (λ x. x ≡ 0 → StandsBelow (set row m u) (m + 1) v) marks u 0 v inside
        (λ q _. record { place = m; below = omega arith; is = last ∙ sym q })
        (λ _ z. let w = stood (omega arith) (s.rows.there v t z) in record { place = w.place; below = omega (arith, w.below); is = w.is });
    once = λ i j a b. below_more (λ j. i < j → ¬ (get_or (set row m u) i 0 ≡ get_or (set row m u) j 0)) m
        (λ j b a e. s.rows.once i j a b (sym (old i (omega (arith, a, b))) ∙ e ∙ old j b))
        (λ a e. omega (arith, high, ap (λ (y : ℕ). get_or marks y 0) (sym last ∙ sym e ∙ old i a), (s.rows.inside i a).1)) j b a;
    first = λ k l. below_more (λ j. get_or (set row m u) j 0 ≡ to_of arrows k → StandsBelow (set row m u) j (from_of arrows k)) m
        (λ j b e. stood (omega (arith, b)) (s.rows.first k l j b (sym (old j b) ∙ e)))
        (λ e. stood (omega arith) (s.rows.there (from_of arrows k) (s.tidy.from_in k l) (s.at.served k l (sym e ∙ last) (omega (arith, ec)))));
    count = omega (arith, s.rows.count, fewer);
  }
    where
      old : (i : ℕ) → i < m → get_or (set row m u) i 0 ≡ get_or row i 0
      old i b = get_or-set_other row m i u 0 (λ q. omega (arith, q, b))

      last : get_or (set row m u) m 0 ≡ u
      last = get_or-set_same row m u 0 (omega (arith, end_small.2, s.rows.long))

      stood : {j v : ℕ} → j ≤ m → StandsBelow row j v → StandsBelow (set row m u) j v
      stood l w = record { place = w.place; below = w.below; is = old w.place (omega (arith, w.below, l)) ∙ w.is }

  -- the walk goes on at u' and c', with a way that is one arrow shorter
  go_on : {d u' c' : ℕ} → d ≡ depth - 1 → c' ≤ 2048 → At n arrows (set marks u 0) u' c' d
      → State n arrows first next (set row m u) (set marks u 0) stack d (m + 1) root u' c'
      × (left n arrows (set marks u 0) root c' < left n arrows marks root c)
  unfolding left
  go_on ed few at = (
    record {
      tidy = s.tidy;
      chains = s.chains;
      long_marks = length-set marks u 0 ∙ s.long_marks;
      long_stack = s.long_stack;
      way = record {
        climbs = λ i l. still_climbs 0 inside (λ q. omega (arith, q, high)) (λ q. omega (arith, q, high, l, ed)) (λ q. omega (arith, q, high, l, ed))
            (s.way.climbs i (omega (arith, l, ed)));
        alone = λ v w tv tw. read_set (λ x. 2 ≤ x → x ≡ get_or (set marks u 0) w 0 → v ≡ w) marks u 0 v inside
            (λ _ b. absurd (omega (arith, b)))
            (λ _ b. read_set (λ y. get_or marks v 0 ≡ y → v ≡ w) marks u 0 w inside (λ _ z. absurd (omega (arith, z, b))) (λ _. s.way.alone v w tv tw b));
        deepest = λ v t. omega (arith, lower v t, ed);
      };
      at = at;
      rows = rows_place;
      tried = record {
        within = s.tried.within;
        old = λ v t b. read_set (λ x. x ≢ 1) marks u 0 v inside (λ _ q. omega (arith, q)) (λ _. s.tried.old v t b);
        below = λ v t b. still v (s.tried.below v t b);
      };
      begun = λ _. s.begun nu;
    },
    omega (arith, fewer, same, few),
  )

  -- ---- it was the last on the way
  pub state_home : depth ≡ 0
      → State n arrows first next (set row m u) (set marks u 0) stack depth (m + 1) root 0 c
      × (left n arrows (set marks u 0) root c < left n arrows marks root c)
  state_home z = go_on (omega (arith, z)) (omega (arith, ec)) (record {
    end = λ h. absurd (h refl);
    none = λ _. (z, omega (arith, s.at.room nu, same), λ v t. omega (arith, lower v t, z));
    along = record { within = omega (arith, ec); here = λ l. absurd (omega (arith, l, ec)) };
    served = λ k l e _. absurd (omega (arith, e, (s.tidy.to_in k l).low));
    room = λ h. absurd (h refl);
  })

  -- ---- back to v by the last arrow of the way, at position a
  module _ (nd : depth ≢ 0) {a : ℕ} (ea : a ≡ get_or stack (depth - 1) 0) where
    top : Climbs n arrows marks (depth - 1) a
    top = rw ea (s.way.climbs (depth - 1) (omega (arith, nd)))

    pub back_small : (1 ≤ a) × (a ≤ 2048)
    back_small = (top.some, omega (arith, top.inside, s.tidy.few))

    pub back_is : {v : ℕ} → v ≡ to_of arrows (a - 1) → v ≢ 0
    back_is e z = omega (arith, e, z, (s.tidy.to_in (a - 1) (omega (arith, top.some, top.inside))).low)

    pub state_back : {v : ℕ} → v ≡ to_of arrows (a - 1)
        → State n arrows first next (set row m u) (set marks u 0) stack (depth - 1) (m + 1) root v (get_or next (a - 1) 0)
        × (left n arrows (set marks u 0) root (get_or next (a - 1) 0) < left n arrows marks root c)
    state_back {v} ev = go_on refl (omega (arith, next_less s.chains at, at.few)) (record {
      end = λ _. (at.to_is, kept marks 0 inside v (λ q. omega (arith, q, high, nd)) (ap (λ (y : ℕ). get_or marks y 0) ev ∙ top.below));
      none = λ z. absurd (omega (arith, z, at.to_is.low));
      along = along_next s.chains at;
      served = λ k b e x. passed_now s.chains at k x e (λ q. still _ (top.served k b (e ∙ ev) q))
          (λ _ q. ap (λ (y : ℕ). get_or (set marks u 0) y 0) q ∙ placed);
      room = λ _. omega (arith, s.at.room nu, same, nd);
    })
      where
        l : a - 1 < length arrows
        l = omega (arith, top.some, top.inside)

        -- where it comes from is u
        from_u : from_of arrows (a - 1) ≡ u
        from_u = s.way.alone (from_of arrows (a - 1)) u (s.tidy.from_in (a - 1) l) is (omega (arith, top.above)) (omega (arith, top.above, high, nd))

        at : Looks n arrows v a u
        at = looks s.tidy (record { within = top.inside; here = λ _. sym ev }) (λ z. omega (arith, z, top.some)) (sym from_u)
