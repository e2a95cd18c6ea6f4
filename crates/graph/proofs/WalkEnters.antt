-- A step of the walk that comes to a new subtask: a root, or where the arrow at the cursor comes from. Assumes nothing.
use Rattle.std.proofs.Common.{◌≡◌, sym, ap, ◌∙◌, ◌≢◌, ⊎_elim, List, ℕ, ◌+◌, ◌≤◌, ◌<◌, arith, eq-or-lt_of_le, length, get_or, set, length-set, get_or-set_same, get_or-set_other, below_more}
use Rattle.terms.specs.Graphs.{Among, to_of}
use Rattle.theory.proofs.Stores.{read_set}
use Rattle.theory.proofs.Tallies.{tally}
use Rattle.graph.specs.Chains.{Last}
use Rattle.graph.specs.Ordered.{StandsBelow}
use Rattle.graph.proofs.Chained.{Looks, along_begin}
use Rattle.graph.proofs.Marks.{new, unplaced, kept, fewer_new, same_unplaced}
use Rattle.graph.proofs.Walk.{Climbs, Tried, State, left, still_climbs}

module _ {n : ℕ} {arrows : List (List ℕ)} {first next row marks stack : List ℕ} {depth m root u c : ℕ}
    (s : State n arrows first next row marks stack depth m root u c) where
  -- ---- p is new and becomes the end of a way of depth d
  module _ {p : ℕ} (t : Among 1 n p) (is_new : get_or marks p 0 ≡ 1) where
    inside : p < length marks
    inside = omega (arith, t.high, s.tidy.subtasks, s.long_marks)

    come_to : (d root' : ℕ) (stack' : List ℕ) → length stack' ≡ 256 → ((i : ℕ) → i < d → Climbs n arrows (set marks p (d + 2)) i (get_or stack' i 0))
        → ((v : ℕ) → Among 1 n v → get_or marks v 0 < d + 2) → d + tally new marks n ≤ n → root ≤ root' → 1 ≤ root'
        → Tried n arrows (set marks p (d + 2)) root'
        → State n arrows first next row (set marks p (d + 2)) stack' d m root' p (get_or first p 0)
        × (left n arrows (set marks p (d + 2)) root' (get_or first p 0) < left n arrows marks root c)
    unfolding left
    come_to d root' stack' long climbs low room onward begun tried = (
      record {
        tidy = s.tidy;
        chains = s.chains;
        long_marks = length-set marks p (d + 2) ∙ s.long_marks;
        long_stack = long;
        -- it has the highest mark
        way = record {
          climbs = climbs;
          alone = λ v w tv tw. read_set (λ x. 2 ≤ x → x ≡ get_or marks' w 0 → v ≡ w) marks p (d + 2) v inside
              (λ qv _. read_set (λ y. d + 2 ≡ y → v ≡ w) marks p (d + 2) w inside (λ qw _. qv ∙ sym qw) (λ _ z. absurd (omega (arith, z, low w tw))))
              (λ qv b. read_set (λ y. get_or marks v 0 ≡ y → v ≡ w) marks p (d + 2) w inside
              (λ _ z. absurd (omega (arith, z, low v tv))) (λ _. s.way.alone v w tv tw b));
          deepest = λ v t. read_set (λ x. x ≤ d + 2) marks p (d + 2) v inside (λ _. omega arith) (λ _. omega (arith, low v t));
        };
        -- no arrow into it is passed
        at = record {
          end = λ _. (t, get_or-set_same marks p (d + 2) 0 inside);
          none = λ z. absurd (omega (arith, z, t.low));
          along = along_begin last;
          served = λ k l e b. absurd (last.gap k b l e);
          room = λ _. omega (arith, room, fewer);
        };
        rows = record {
          long = s.rows.long;
          inside = λ i b. let w = s.rows.inside i b in (w.0, kept marks (d + 2) inside _ (λ q. omega (arith, q, is_new)) w.1);
          there = λ v t. read_set (λ x. x ≡ 0 → StandsBelow row m v) marks p (d + 2) v inside (λ _ z. absurd (omega (arith, z))) (λ _. s.rows.there v t);
          once = s.rows.once;
          first = s.rows.first;
          count = omega (arith, s.rows.count, same);
        };
        tried = tried;
        begun = λ _. begun;
      },
      omega (arith, fewer, same, last.within, s.tidy.few, onward),
    )
      where
        marks' : List ℕ
        marks' = set marks p (d + 2)

        last : Last (to_of arrows) p (length arrows) (get_or first p 0)
        last = s.chains.start p (omega (arith, t.high, s.tidy.subtasks))

        fewer : tally new marks' n + 1 ≡ tally new marks n
        fewer = fewer_new marks (d + 2) inside t is_new (omega arith)

        same : tally unplaced marks' n ≡ tally unplaced marks n
        same = same_unplaced marks (d + 2) inside t is_new (omega arith)

  -- ---- there is no way: the next root
  module _ (eu : u ≡ 0) (more : root ≢ n) where
    root_is : Among 1 n (root + 1)
    root_is = record { low = omega arith; high = omega (arith, s.tried.within, more) }

    -- those before it are placed
    settled : (v : ℕ) → Among 1 n v → v < root + 1 → get_or marks v 0 ≡ 0
    settled v t l = omega (arith, (s.at.none eu).2 v t, s.tried.old v t (omega (arith, l)))

    pub root_small : root + 1 < 257
    root_small = omega (arith, root_is.high, s.tidy.subtasks)

    -- it was come to before
    pub state_root : get_or marks (root + 1) 0 ≢ 1
        → State n arrows first next row marks stack depth m (root + 1) u c × (left n arrows marks (root + 1) c < left n arrows marks root c)
    unfolding left
    state_root old = (
      record {
        tidy = s.tidy;
        chains = s.chains;
        long_marks = s.long_marks;
        long_stack = s.long_stack;
        way = s.way;
        at = s.at;
        rows = s.rows;
        tried = record {
          within = root_is.high;
          old = λ v t l. ⊎_elim (λ e. rw e old) (λ b. s.tried.old v t (omega (arith, b))) (eq-or-lt_of_le {n = v} {m = root + 1} l);
          below = settled;
        };
        begun = λ _. omega arith;
      },
      omega (arith, root_is.high),
    )

    -- it is new
    pub state_enter : get_or marks (root + 1) 0 ≡ 1
        → State n arrows first next row (set marks (root + 1) 2) stack depth m (root + 1) (root + 1) (get_or first (root + 1) 0)
        × (left n arrows (set marks (root + 1) 2) (root + 1) (get_or first (root + 1) 0) < left n arrows marks root c)
    state_enter is_new = rw (s.at.none eu).0
        (come_to root_is is_new 0 (root + 1) stack s.long_stack (λ i l. absurd (omega (arith, l)))
        (λ v t. omega (arith, (s.at.none eu).2 v t)) (omega (arith, (s.at.none eu).1)) (omega arith) (omega arith)
        (record {
          within = root_is.high;
          old = λ v t l. read_set (λ x. x ≢ 1) marks (root + 1) 2 v (inside root_is is_new)
              (λ _ q. omega (arith, q)) (λ q. s.tried.old v t (omega (arith, l, q)));
          below = λ v t l. kept marks 2 (inside root_is is_new) v (λ q. omega (arith, q, is_new)) (settled v t l);
        }))

  -- ---- the arrow at the cursor comes from p, which is new: the way goes on to p
  module _ {p : ℕ} (at : Looks n arrows u c p) (is_new : get_or marks p 0 ≡ 1) where
    on_way : u ≢ 0
    on_way z = omega (arith, z, at.to_is.low)

    fewer : tally new (set marks p (depth + 1 + 2)) n + 1 ≡ tally new marks n
    fewer = fewer_new marks (depth + 1 + 2) (inside at.from_is is_new) at.from_is is_new (omega arith)

    pub room_for : depth < 256
    room_for = omega (arith, s.at.room on_way, fewer, s.tidy.subtasks)

    pub state_on : State n arrows first next row (set marks p (depth + 1 + 2)) (set stack depth c) (depth + 1) m root p (get_or first p 0)
        × (left n arrows (set marks p (depth + 1 + 2)) root (get_or first p 0) < left n arrows marks root c)
    state_on = come_to at.from_is is_new (depth + 1) root (set stack depth c) (length-set stack depth c ∙ s.long_stack) climbs
        (λ v t. omega (arith, s.way.deepest v t)) (omega (arith, s.at.room on_way)) (omega arith) (s.begun on_way)
        (record {
          within = s.tried.within;
          old = λ v t b. read_set (λ x. x ≢ 1) marks p (depth + 1 + 2) v lp (λ _ q. omega (arith, q)) (λ _. s.tried.old v t b);
          below = λ v t b. still v (λ q. omega (arith, q)) (s.tried.below v t b);
        })
      where
        lp : p < length marks
        lp = inside at.from_is is_new

        still : (v : ℕ) {x : ℕ} → x ≢ 1 → get_or marks v 0 ≡ x → get_or (set marks p (depth + 1 + 2)) v 0 ≡ x
        still v h z = kept marks (depth + 1 + 2) lp v (λ q. h (q ∙ is_new)) z

        climbs : (i : ℕ) → i < depth + 1 → Climbs n arrows (set marks p (depth + 1 + 2)) i (get_or (set stack depth c) i 0)
        climbs = below_more (λ i. Climbs n arrows (set marks p (depth + 1 + 2)) i (get_or (set stack depth c) i 0)) depth
            (λ i b. rw (get_or-set_other stack depth i c 0 (λ q. omega (arith, q, b)))
            (still_climbs (depth + 1 + 2) lp (λ q. omega (arith, q, is_new)) (λ q. omega (arith, q, is_new)) (λ q. omega (arith, q, is_new)) (s.way.climbs i b)))
            (rw (get_or-set_same stack depth c 0 (omega (arith, room_for, s.long_stack))) (record {
              some = omega (arith, at.some);
              inside = omega (arith, at.inside);
              above = ap (λ (y : ℕ). get_or (set marks p (depth + 1 + 2)) y 0) (sym at.begins) ∙ get_or-set_same marks p (depth + 1 + 2) 0 lp ∙ three depth;
              below = still _ (λ q. omega (arith, q)) (ap (λ (y : ℕ). get_or marks y 0) at.arrives ∙ (s.at.end on_way).1);
              served = λ k l e b. still _ (λ q. omega (arith, q)) (s.at.served k l (e ∙ at.arrives) b);
            }))
          where
            three : (d : ℕ) → d + 1 + 2 ≡ d + 3
            three d = omega arith
