-- The walk looks at an arrow: it is passed where it comes from a subtask that is placed, and closes a cycle where from one that is on the way.
-- Assumes nothing.
use Rattle.std.proofs.Common.{◌≡◌, refl, sym, ap, ◌∙◌, subst, ◌≢◌, List, ℕ, zero, suc, ◌+◌, ◌-◌, ◌<◌, arith, length, get_or}
use Rattle.terms.specs.Graphs.{Among, from_of, to_of, LeadsTo, step, more}
use Rattle.graph.proofs.Chained.{Looks, along_next, next_less, passed_now}
use Rattle.graph.specs.Ordered.{Closes}
use Rattle.graph.proofs.NoCycle.{leads_to_subtask, on_no_cycle}
use Rattle.graph.proofs.Walk.{State, left}

module _ {n : ℕ} {arrows : List (List ℕ)} {first next row marks stack : List ℕ} {depth m root u c p : ℕ}
    (s : State n arrows first next row marks stack depth m root u c) (at : Looks n arrows u c p) where
  -- p is placed
  pub state_skip : get_or marks p 0 ≡ 0
      → State n arrows first next row marks stack depth m root u (get_or next (c - 1) 0)
      × (left n arrows marks root (get_or next (c - 1) 0) < left n arrows marks root c)
  unfolding left
  state_skip z = (
    record {
      tidy = s.tidy;
      chains = s.chains;
      long_marks = s.long_marks;
      long_stack = s.long_stack;
      way = s.way;
      at = record {
        end = s.at.end;
        none = s.at.none;
        along = along_next s.chains at;
        served = λ k l e b. passed_now s.chains at k b e (s.at.served k l e) (λ _ q. ap (λ (y : ℕ). get_or marks y 0) q ∙ z);
        room = s.at.room;
      };
      rows = s.rows;
      tried = s.tried;
      begun = s.begun;
    },
    omega (arith, next_less s.chains at),
  )

  -- p is on the way: from p by this arrow to u, and along the way back to p
  around : get_or marks p 0 ≢ 0 → get_or marks p 0 ≢ 1 → (j : ℕ) × LeadsTo arrows j j
  around a b = (p, down (depth - (get_or marks p 0 - 2)) u end.0 (omega (arith, end.1, s.way.deepest p at.from_is, a, b)) arrive)
    where
      end : Among 1 n u × (get_or marks u 0 ≡ depth + 2)
      end = s.at.end (λ z. omega (arith, z, at.to_is.low))

      arrive : LeadsTo arrows p u
      arrive = step (record { place = c - 1; inside = at.inside; begins = sym at.begins; arrives = at.arrives })

      -- v lies so many steps above p on the way
      down : (steps v : ℕ) → Among 1 n v → get_or marks v 0 ≡ get_or marks p 0 + steps → LeadsTo arrows p v → LeadsTo arrows p p
      down zero v t e l = subst (λ (y : ℕ). LeadsTo arrows p y) (s.way.alone v p t at.from_is (omega (arith, e, a, b)) (omega (arith, e))) l
      down (suc steps) v t e l =
          let i : ℕ = get_or marks v 0 - 3 in
          let w = s.way.climbs i (omega (arith, e, a, b, s.way.deepest v t)) in
          let place : ℕ = get_or stack i 0 - 1 in
          let inside : place < length arrows = omega (arith, w.some, w.inside) in
          let same : from_of arrows place ≡ v =
          s.way.alone (from_of arrows place) v (s.tidy.from_in place inside) t (omega (arith, w.above)) (omega (arith, w.above, e, a, b)) in
          down steps (to_of arrows place) (s.tidy.to_in place inside) (omega (arith, w.below, e, a, b))
          (more l (record { place = place; inside = inside; begins = same; arrives = refl }))

  -- and what is below the root is placed
  pub state_cycle : get_or marks p 0 ≢ 0 → get_or marks p 0 ≢ 1 → Closes n arrows root
  state_cycle a b = record {
    is = record { low = s.begun on_way; high = s.tried.within };
    cycle = around a b;
    below = λ j l h. let t = leads_to_subtask s.tidy h in on_no_cycle m s.rows.once s.rows.first (s.rows.there j t (s.tried.below j t l)) h;
  }
    where
      on_way : u ≢ 0
      on_way z = omega (arith, z, at.to_is.low)
