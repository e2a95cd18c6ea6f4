-- The walk back along the arrows that leaves the order: what holds all along it, at its start and at its end. Assumes nothing.
use Rattle.std.proofs.Common.{◌≡◌, refl, ◌≢◌, List, ℕ, ◌+◌, ◌-◌, ◌*◌, ◌≤◌, ◌<◌, arith, length, get_or, set, replicate}
use Rattle.std.proofs.lemmas.List.{length-replicate}
use Rattle.terms.specs.Graphs.{Among, from_of, to_of}
use Rattle.theory.proofs.Tallies.{tally, tally_none, tally_all}
use Rattle.graph.specs.Chains.{Tidy, Chains}
use Rattle.graph.specs.Ordered.{StandsBelow, Ordered}
use Rattle.graph.proofs.Chained.{Along}
use Rattle.graph.proofs.Marks.{new, unplaced, new_is, unplaced_is, unplaced_not, first_mark, kept}

module _ (n : ℕ) (arrows : List (List ℕ)) where
  -- the arrows into v from place c on come from subtasks that are placed
  abbrev pub Served : List ℕ → ℕ → ℕ → Type 0
  Served marks v c = (k : ℕ) → k < length arrows → to_of arrows k ≡ v → c ≤ k → get_or marks (from_of arrows k) 0 ≡ 0

  -- the arrow at position a leads from depth i + 1 of the way to depth i
  pub record Climbs (marks : List ℕ) (i a : ℕ) : Type 0 where
    pub some : 1 ≤ a
    pub inside : a ≤ length arrows
    pub above : get_or marks (from_of arrows (a - 1)) 0 ≡ i + 3
    pub below : get_or marks (to_of arrows (a - 1)) 0 ≡ i + 2
    pub served : Served marks (to_of arrows (a - 1)) a

  -- the way: its arrows stand on the stack, its subtasks are marked with their depth and 2
  pub record Way (marks stack : List ℕ) (depth : ℕ) : Type 0 where
    pub climbs : (i : ℕ) → i < depth → Climbs marks i (get_or stack i 0)
    pub alone : (v w : ℕ) → Among 1 n v → Among 1 n w → 2 ≤ get_or marks v 0 → get_or marks v 0 ≡ get_or marks w 0 → v ≡ w
    pub deepest : (v : ℕ) → Among 1 n v → get_or marks v 0 ≤ depth + 2

  -- the walk is at u, the end of the way, and at the arrow at position c of its chain; u is 0 where there is no way
  pub record At (marks : List ℕ) (u c depth : ℕ) : Type 0 where
    pub end : u ≢ 0 → Among 1 n u × (get_or marks u 0 ≡ depth + 2)
    pub none : u ≡ 0 → (depth ≡ 0) × (tally new marks n ≤ n) × ((v : ℕ) → Among 1 n v → get_or marks v 0 ≤ 1)
    pub along : Along arrows u c
    pub served : Served marks u c
    pub room : u ≢ 0 → depth + 1 + tally new marks n ≤ n

  -- the row holds the m subtasks that are placed, each once, predecessors first
  pub record Rows (row marks : List ℕ) (m : ℕ) : Type 0 where
    pub long : length row ≡ 256
    pub inside : (i : ℕ) → i < m → Among 1 n (get_or row i 0) × (get_or marks (get_or row i 0) 0 ≡ 0)
    pub there : (v : ℕ) → Among 1 n v → get_or marks v 0 ≡ 0 → StandsBelow row m v
    pub once : (i j : ℕ) → i < j → j < m → ¬ (get_or row i 0 ≡ get_or row j 0)
    pub first : (k : ℕ) → k < length arrows → (j : ℕ) → j < m → get_or row j 0 ≡ to_of arrows k → StandsBelow row j (from_of arrows k)
    pub count : m + tally unplaced marks n ≡ n

  -- the subtasks up to root are not new, and those below it are placed
  pub record Tried (marks : List ℕ) (root : ℕ) : Type 0 where
    pub within : root ≤ n
    pub old : (v : ℕ) → Among 1 n v → v ≤ root → get_or marks v 0 ≢ 1
    pub below : (v : ℕ) → Among 1 n v → v < root → get_or marks v 0 ≡ 0

  pub record State (first next row marks stack : List ℕ) (depth m root u c : ℕ) : Type 0 where
    pub tidy : Tidy n arrows
    pub chains : Chains (to_of arrows) first next (length arrows)
    pub long_marks : length marks ≡ 257
    pub long_stack : length stack ≡ 256
    pub way : Way marks stack depth
    pub at : At marks u c depth
    pub rows : Rows row marks m
    pub tried : Tried marks root
    pub begun : u ≢ 0 → 1 ≤ root

  -- what is left to do
  unfoldable pub left : List ℕ → ℕ → ℕ → ℕ
  left marks root c = 2049 * (tally new marks n + tally unplaced marks n) + c + (n - root)

module _ {n : ℕ} {arrows : List (List ℕ)} where
  -- a climb stays one where another subtask, that is not placed, has its mark changed
  pub still_climbs : {marks : List ℕ} {i a p : ℕ} (e : ℕ) → p < length marks → get_or marks p 0 ≢ 0 → get_or marks p 0 ≢ i + 2 → get_or marks p 0 ≢ i + 3
      → Climbs n arrows marks i a → Climbs n arrows (set marks p e) i a
  still_climbs {marks} e l x y z w = record {
    some = w.some;
    inside = w.inside;
    above = kept marks e l _ (λ q. z (omega (arith, q))) w.above;
    below = kept marks e l _ (λ q. y (omega (arith, q))) w.below;
    served = λ k b q r. kept marks e l _ (λ o. x (omega (arith, o))) (w.served k b q r);
  }

  -- ---- no subtask was come to
  pub state_start : {first next row stack : List ℕ} → Tidy n arrows → Chains (to_of arrows) first next (length arrows) → length row ≡ 256 → length stack ≡ 256
      → State n arrows first next row (replicate 257 1) stack 0 0 0 0 0
  state_start tidy chains lr ls = record {
    tidy = tidy;
    chains = chains;
    long_marks = length-replicate {A = ℕ} 257 1;
    long_stack = ls;
    way = record {
      climbs = λ i l. absurd (omega (arith, l));
      alone = λ v w t _ b _. absurd (omega (arith, b, mark v t));
      deepest = λ v t. omega (arith, mark v t);
    };
    at = record {
      end = λ h. absurd (h refl);
      none = λ _. (refl, omega (arith, tally_all new (replicate 257 1) n (λ v t. new_is _ (mark v t))), λ v t. omega (arith, mark v t));
      along = record { within = omega arith; here = λ l. absurd (omega (arith, l)) };
      served = λ k l e _. absurd (omega (arith, e, (tidy.to_in k l).low));
      room = λ h. absurd (h refl);
    };
    rows = record {
      long = lr;
      inside = λ i l. absurd (omega (arith, l));
      there = λ v t z. absurd (omega (arith, z, mark v t));
      once = λ i j _ l _. omega (arith, l);
      first = λ k _ j l _. absurd (omega (arith, l));
      count = omega (arith, tally_all unplaced (replicate 257 1) n (λ v t. unplaced_is _ (λ q. omega (arith, q, mark v t))));
    };
    tried = record { within = omega arith; old = λ v t l _. omega (arith, t.low, l); below = λ v t l. absurd (omega (arith, l)) };
    begun = λ h. absurd (h refl);
  }
    where
      mark : (v : ℕ) → Among 1 n v → ◌≡◌ {A = ℕ} (get_or (replicate 257 1) v 0) 1
      mark v t = first_mark tidy.subtasks t

  -- ---- every subtask was tried, and there is no way
  pub state_end : {first next row marks stack : List ℕ} {depth m root u c : ℕ} → State n arrows first next row marks stack depth m root u c
      → u ≡ 0 → root ≡ n → Ordered n arrows row
  state_end {row = row} {marks = marks} {m = m} s eu er = order
    where
      placed : (v : ℕ) → Among 1 n v → get_or marks v 0 ≡ 0
      placed v t = omega (arith, (s.at.none eu).2 v t, s.tried.old v t (omega (arith, t.high, er)))

      all : m ≡ n
      all = omega (arith, s.rows.count, tally_none unplaced marks n (λ v t. unplaced_not _ (placed v t)))

      order : Ordered n arrows row
      order = record {
        long = s.rows.long;
        inside = λ i b. (s.rows.inside i (omega (arith, b, all))).0;
        each = λ v t. let w = s.rows.there v t (placed v t) in record { place = w.place; below = omega (arith, w.below, all); is = w.is };
        once = λ i j a b. s.rows.once i j a (omega (arith, b, all));
        first = λ k l j b. s.rows.first k l j (omega (arith, b, all));
      }
