-- The weights of the paths, found in an order with predecessors first, give the longest path. Assumes nothing.
use Rattle.std.proofs.Common.{◌≡◌, refl, sym, ap, ◌∙◌, ◌⊎◌, inl, inr, ⊎_elim, List, [], ◌∷◌, ℕ, suc, ◌+◌, ◌-◌, ◌*◌, ◌≤◌, ◌<◌, max, arith, length, get_or, set, replicate, length-set, get_or-set_same, get_or-set_other, below_more, sum_by}
use Rattle.std.proofs.Math.Logic.{by_cases}
use Rattle.std.proofs.Math.Decide.{ℕ_discrete, dec_le}
use Rattle.std.proofs.lemmas.List.{length-replicate, get_or-replicate}
use Rattle.terms.specs.Graphs.{Among, IsSubtask, time_of, from_of, to_of, Precedes}
use Rattle.std.proofs.lemmas.List.Sums.{sum_by-cons}
use Rattle.terms.specs.Sums.{sum}
use Rattle.theory.proofs.Sums.{sum_eq, sum_first}
use Rattle.terms.specs.Paths.{total_work, PathTo, alone, along, weight, IsLongest}
use Rattle.inputs.specs.Lent.{IsTimeOf}
use Rattle.graph.specs.Chains.{Tidy, Chains}
use Rattle.graph.specs.Ordered.{Ordered}
use Rattle.graph.specs.Latest.{Latest}
use Rattle.theory.proofs.Stores.{read_set}
use Rattle.graph.proofs.Chained.{Along, Looks, along_begin, along_next, next_less, passed_now}

-- the sum of a row's items is the total work
pub total_items : (times : List ℕ) → sum_by (λ time. time) times ≡ total_work times
unfolding total_work time_of sum
total_items times = by_place times ∙ sum_eq (length times) (λ i. get_or times i 0) (λ i. get_or times (suc i - 1) 0)
    (λ i _. ap (λ (k : ℕ). get_or times k 0) (omega arith))
  where
    by_place : (times : List ℕ) → sum_by (λ time. time) times ≡ sum (length times) (λ i. get_or times i 0)
    by_place [] = refl
    by_place (t ∷ ts) = omega (arith, sum_by-cons (λ (time : ℕ). time) t ts, by_place ts, sum_first (length ts) (λ i. get_or (t ∷ ts) i 0))

-- the larger of two numbers is one of them
one_of : (a b r : ℕ) → r ≡ max a b → (r ≡ a) ⊎ (r ≡ b)
one_of a b r e = by_cases (dec_le b a) (λ l. inl (omega (arith, e, l))) (λ l. inr (omega (arith, e, l)))

-- ---- the arrows into v from place c on along its chain are looked at
pub record LookedAt (n : ℕ) (arrows : List (List ℕ)) (first next finish : List ℕ) (v c most : ℕ) : Type 0 where
  pub tidy : Tidy n arrows
  pub chains : Chains (to_of arrows) first next (length arrows)
  pub along : Along arrows v c
  pub latest : Latest arrows finish v c most

module _ {n : ℕ} {arrows : List (List ℕ)} {first next : List ℕ} where
  pub looked_start : Tidy n arrows → Chains (to_of arrows) first next (length arrows) → (finish : List ℕ) {v : ℕ} → v < 257
      → LookedAt n arrows first next finish v (get_or first v 0) 0
  looked_start tidy chains finish {v} l =
      let last = chains.start v l in
      record {
        tidy = tidy;
        chains = chains;
        along = along_begin last;
        latest = record { most = λ k a l e. absurd (last.gap k a l e); reached = inl refl };
      }

  pub looked_more : {finish : List ℕ} {v c most p g : ℕ} → LookedAt n arrows first next finish v c most → Looks n arrows v c p → g ≡ max most (get_or finish p 0)
      → LookedAt n arrows first next finish v (get_or next (c - 1) 0) g × (get_or next (c - 1) 0 < c)
  looked_more {finish} {c = c} {most} {p} {g} r at big = (
    record {
      tidy = r.tidy;
      chains = r.chains;
      along = along_next r.chains at;
      latest = record {
        most = λ k a l e. passed_now r.chains at k a e (λ b. omega (arith, r.latest.most k b l e, big))
            (λ _ q. omega (arith, big, ap (λ (y : ℕ). get_or finish y 0) q));
        reached = ⊎_elim
            (λ e. ⊎_elim (λ z. inl (e ∙ z)) (λ w. inr (w.0, w.1, e ∙ w.2)) r.latest.reached)
            (λ e. inr (p, record { place = c - 1; inside = at.inside; begins = sym at.begins; arrives = at.arrives }, e))
            (one_of most (get_or finish p 0) g big);
      };
    },
    next_less r.chains at,
  )

module _ (times : List ℕ) (arrows : List (List ℕ)) (row : List ℕ) where
  -- the first j entries have the largest weight of a path that ends there
  pub record Weighed (finish : List ℕ) (most j : ℕ) : Type 0 where
    pub tidy : Tidy (length times) arrows
    pub order : Ordered (length times) arrows row
    pub long : length finish ≡ 257
    pub upto : j ≤ length times
    pub small : (x : ℕ) → x < 257 → get_or finish x 0 ≤ 65535 * j
    pub path : (i : ℕ) → i < j → (path : PathTo times arrows (get_or row i 0)) × (weight path ≡ get_or finish (get_or row i 0) 0)
    pub own : (i : ℕ) → i < j → time_of times (get_or row i 0) ≤ get_or finish (get_or row i 0) 0
    pub past : (i : ℕ) → i < j → (k : ℕ) → k < length arrows → to_of arrows k ≡ get_or row i 0
        → get_or finish (from_of arrows k) 0 + time_of times (get_or row i 0) ≤ get_or finish (get_or row i 0) 0
    pub over : (i : ℕ) → i < j → get_or finish (get_or row i 0) 0 ≤ most
    pub reached : 0 < j → (i : ℕ) × (i < j) × (most ≡ get_or finish (get_or row i 0) 0)
    pub begins : j ≡ 0 → most ≡ 0

module _ {times : List ℕ} {arrows : List (List ℕ)} {row : List ℕ} where
  pub weighed_start : Tidy (length times) arrows → Ordered (length times) arrows row → Weighed times arrows row (replicate 257 0) 0 0
  weighed_start tidy order = record {
    tidy = tidy;
    order = order;
    long = length-replicate {A = ℕ} 257 0;
    upto = omega arith;
    small = λ x l. omega (arith, get_or-replicate {A = ℕ} 257 x 0 0 l);
    path = λ i l. absurd (omega (arith, l));
    own = λ i l. absurd (omega (arith, l));
    past = λ i l. absurd (omega (arith, l));
    over = λ i l. absurd (omega (arith, l));
    reached = λ l. absurd (omega (arith, l));
    begins = λ _. refl;
  }

  module _ {finish : List ℕ} {most j : ℕ} (w : Weighed times arrows row finish most j) where
    -- ---- the next entry, v
    module _ (l : j < length times) {v : ℕ} (ev : v ≡ get_or row j 0) where
      entry_is : Among 1 (length times) v
      entry_is = rw ev (w.order.inside j l)

      pub entry_small : v < 257
      entry_small = omega (arith, entry_is.high, w.tidy.subtasks)

      module _ {before : ℕ} (latest : Latest arrows finish v 0 before) where
        before_small : before ≤ 65535 * j
        before_small = ⊎_elim (λ e. omega (arith, e))
            (λ r. let from = w.tidy.from_in r.1.place r.1.inside in
            omega (arith, r.2, w.small r.0 (omega (arith, r.1.begins, from.high, w.tidy.subtasks))))
            latest.reached

        -- a time more still fits
        pub time_fits : before + 65536 ≤ 4294967296
        time_fits = omega (arith, before_small, l, w.tidy.subtasks)

        pub weighed_more : {time most' : ℕ} → IsTimeOf times v time → most' ≡ max most (before + time)
            → Weighed times arrows row (set finish v (before + time)) most' (j + 1)
        unfolding weight
        weighed_more {time} {most'} told big = record {
          tidy = w.tidy;
          order = w.order;
          long = length-set finish v (before + time) ∙ w.long;
          upto = omega (arith, l);
          small = λ x b. read_set (λ y. y ≤ 65535 * (j + 1)) finish v (before + time) x lv
              (λ _. omega (arith, before_small, told.small)) (λ _. omega (arith, w.small x b));
          path = below_more (λ i. (path : PathTo times arrows (get_or row i 0)) × (weight path ≡ get_or finish' (get_or row i 0) 0)) j
              (λ i b. let p = w.path i b in (p.0, p.1 ∙ sym (kept i b)))
              (rw (← ev) new_path);
          own = below_more (λ i. time_of times (get_or row i 0) ≤ get_or finish' (get_or row i 0) 0) j
              (λ i b. omega (arith, w.own i b, kept i b))
              (rw (← ev) (omega (arith, is_new, et)));
          past = below_more (λ i. (k : ℕ) → k < length arrows → to_of arrows k ≡ get_or row i 0
              → get_or finish' (from_of arrows k) 0 + time_of times (get_or row i 0) ≤ get_or finish' (get_or row i 0) 0) j
              (λ i b k lk e. let s = w.order.first k lk i (omega (arith, b, l)) (sym e) in
              omega (arith, w.past i b k lk e, kept i b, kept_at (from_of arrows k) s.place (omega (arith, s.below, b)) s.is))
              (rw (← ev) (λ k lk e. let s = w.order.first k lk j l (sym ev ∙ sym e) in
              omega (arith, latest.most k (omega arith) lk e, kept_at (from_of arrows k) s.place s.below s.is, is_new, et)));
          over = below_more (λ i. get_or finish' (get_or row i 0) 0 ≤ most') j
              (λ i b. omega (arith, w.over i b, kept i b, big))
              (rw (← ev) (omega (arith, is_new, big)));
          reached = λ _. ⊎_elim reached_old (λ e. (j, omega arith, e ∙ sym is_new ∙ ap (λ (y : ℕ). get_or finish' y 0) ev))
              (one_of most (before + time) most' big);
          begins = λ e. absurd (omega (arith, e));
        }
          where
            et : time ≡ time_of times v
            et = told.is entry_is

            finish' : List ℕ
            finish' = set finish v (before + time)

            lv : v < length finish
            lv = omega (arith, entry_small, w.long)

            is_new : get_or finish' v 0 ≡ before + time
            is_new = get_or-set_same finish v (before + time) 0 lv

            -- an earlier entry is not v
            kept_at : (x i : ℕ) → i < j → get_or row i 0 ≡ x → get_or finish' x 0 ≡ get_or finish x 0
            kept_at x i b e = get_or-set_other finish v x (before + time) 0 (λ q. w.order.once i j b l (e ∙ q ∙ ev))

            kept : (i : ℕ) → i < j → get_or finish' (get_or row i 0) 0 ≡ get_or finish (get_or row i 0) 0
            kept i b = kept_at (get_or row i 0) i b refl

            new_path : (path : PathTo times arrows v) × (weight path ≡ get_or finish' v 0)
            new_path = ⊎_elim
                (λ e. (alone v entry_is, omega (arith, e, et, is_new)))
                (λ r. onward r.0 r.1 r.2)
                latest.reached
              where
                onward : (p : ℕ) → Precedes arrows p v → before ≡ get_or finish p 0 → (path : PathTo times arrows v) × (weight path ≡ get_or finish' v 0)
                onward p a e =
                    let s = w.order.first a.place a.inside j l (sym ev ∙ sym a.arrives) in
                    let q = w.path s.place s.below in
                    let is_p : get_or row s.place 0 ≡ p = s.is ∙ a.begins in
                    let path : (path : PathTo times arrows p) × (weight path ≡ get_or finish p 0) = rw is_p at q in
                    (along path.0 v a, omega (arith, path.1, e, et, is_new))

            reached_old : most' ≡ most → (i : ℕ) × (i < j + 1) × (most' ≡ get_or finish' (get_or row i 0) 0)
            reached_old e = go (ℕ_discrete j 0)
              where
                go : Dec (j ≡ 0) → (i : ℕ) × (i < j + 1) × (most' ≡ get_or finish' (get_or row i 0) 0)
                go (yes z) = (j, omega arith, last z)
                  where
                    last : j ≡ 0 → most' ≡ get_or finish' (get_or row j 0) 0
                    last z =
                        let f : most' ≡ before + time = omega (arith, e, w.begins z, big) in
                        f ∙ sym is_new ∙ ap (λ (y : ℕ). get_or finish' y 0) ev
                go (no z) = let r = w.reached (omega (arith, z)) in (r.0, omega (arith, r.1), e ∙ r.2 ∙ sym (kept r.0 r.1))

    -- ---- all entries are weighed
    pub weighed_end : 1 ≤ length times → length times ≤ j → IsLongest times arrows most
    unfolding weight
    weighed_end some all = record {
      reached = (let r = w.reached (omega (arith, some, all)) in let p = w.path r.0 r.1 in (get_or row r.0 0, p.0, p.1 ∙ sym r.2));
      most = λ j path. omega (arith, bounded path, (at j (end_of path)).1);
    }
      where
        -- subtask v has an entry
        at : (v : ℕ) → IsSubtask times v → (time_of times v ≤ get_or finish v 0) × (get_or finish v 0 ≤ most)
            × ((k : ℕ) → k < length arrows → to_of arrows k ≡ v → get_or finish (from_of arrows k) 0 + time_of times v ≤ get_or finish v 0)
        at v t =
            let s = w.order.each v t in
            let l : s.place < j = omega (arith, s.below, all) in
            (rw s.is at (w.own s.place l), rw s.is at (w.over s.place l), rw s.is at (w.past s.place l))

        end_of : {j : ℕ} → PathTo times arrows j → IsSubtask times j
        end_of (alone j s) = s
        end_of (along path j a) = rw a.arrives at (w.tidy.to_in a.place a.inside)

        bounded : {j : ℕ} (path : PathTo times arrows j) → weight path ≤ get_or finish j 0
        bounded (alone j s) = (at j s).0
        bounded (along path j a) =
            let t : IsSubtask times j = rw a.arrives at (w.tidy.to_in a.place a.inside) in
            omega (arith, bounded path, (at j t).2 a.place a.inside a.arrives, ap (λ (y : ℕ). get_or finish y 0) a.begins)
