-- The search back along the arrows from a root: what holds all along it, at its start and at its end, and how each step keeps it. Assumes nothing.
use Rattle.std.proofs.Common.{◌≡◌, refl, sym, ap, ◌∙◌, ℕ, zero, suc, ◌+◌, ◌-◌, ◌≤◌, ◌<◌, Bool, true, false, cond, List, ◌∷◌, map, length, get_or, arith, ◌≢◌, set, replicate, length-set, get_or-set_same, get_or-set_other, below_more}
use Rattle.std.proofs.lemmas.List.{get_or-map, map-set, length-map, length-replicate}
use Rattle.terms.specs.Graphs.{Among, from_of, to_of, Precedes, LeadsTo, step, more}
use Rattle.theory.proofs.Stores.{read_set}
use Rattle.theory.proofs.Tallies.{tally, tally_all}
use Rattle.theory.proofs.Reaching.{leads_on}
use Rattle.graph.specs.Chains.{Tidy, Last, Chains}
use Rattle.graph.specs.Ordered.{StandsBelow}
use Rattle.graph.proofs.Chained.{Along, Looks, along_begin, along_next, passed_now}
use Rattle.graph.proofs.Marks.{unplaced, unplaced_is, first_mark, kept, fewer_unplaced}
use Rattle.graph.proofs.Walk.{Served}

-- whose arrows are looked at in turn i: those into the root, then those into each of the queue
unfoldable pub turn : ℕ → List ℕ → ℕ → ℕ
turn root queue zero = root
turn root queue (suc i) = get_or queue i 0

module _ (n : ℕ) (arrows : List (List ℕ)) (root : ℕ) where
  pub record Search (first next unmet queue : List ℕ) (met done c : ℕ) : Type 0 where
    pub tidy : Tidy n arrows
    pub chains : Chains (to_of arrows) first next (length arrows)
    pub long_unmet : length unmet ≡ 257
    pub long_queue : length queue ≡ 256
    pub count : met + tally unplaced unmet n ≡ n
    pub behind : done ≤ met
    pub root_unmet : get_or unmet root 0 ≢ 0
    -- the queue holds those that were met, and they lead to the root
    pub queued : (i : ℕ) → i < met → Among 1 n (get_or queue i 0) × LeadsTo arrows (get_or queue i 0) root
    pub there : (v : ℕ) → Among 1 n v → get_or unmet v 0 ≡ 0 → StandsBelow queue met v
    -- the search is at the arrow at position c of its turn, and the arrows that were passed come from those that were met
    pub along : Along arrows (turn root queue done) c
    pub served : Served n arrows unmet (turn root queue done) c
    pub before : (i : ℕ) → i < done → Served n arrows unmet (turn root queue i) 0

abbrev as_number : Bool → ℕ
as_number b = cond b 0 1

-- the flags of those that were met, as numbers: 0 where it was
abbrev pub unmet_of : List Bool → List ℕ
unmet_of met = map as_number met

none_met : (n : ℕ) → unmet_of (replicate n false) ≡ replicate n 1
none_met zero = refl
none_met (suc n) = ap (λ (l : List ℕ). 1 ∷ l) (none_met n)

module _ {n : ℕ} {arrows : List (List ℕ)} {root : ℕ} {first next : List ℕ} where
  -- ---- none was met
  pub search_start : {queue : List ℕ} → Tidy n arrows → Among 1 n root → Chains (to_of arrows) first next (length arrows) → length queue ≡ 256
      → Search n arrows root first next (unmet_of (replicate 257 false)) queue 0 0 (get_or first root 0)
  unfolding turn
  search_start tidy is chains lq = rw (none_met 257) (record {
    tidy = tidy;
    chains = chains;
    long_unmet = length-replicate {A = ℕ} 257 1;
    long_queue = lq;
    count = omega (arith, tally_all unplaced (replicate 257 1) n (λ v t. unplaced_is _ (λ q. omega (arith, q, mark v t))));
    behind = omega arith;
    root_unmet = λ q. omega (arith, q, mark root is);
    queued = λ i l. absurd (omega (arith, l));
    there = λ v t z. absurd (omega (arith, z, mark v t));
    along = along_begin begins;
    served = λ k l e b. absurd (begins.gap k b l e);
    before = λ i l. absurd (omega (arith, l));
  })
    where
      mark : (v : ℕ) → Among 1 n v → ◌≡◌ {A = ℕ} (get_or (replicate 257 1) v 0) 1
      mark v t = first_mark tidy.subtasks t

      begins : Last (to_of arrows) root (length arrows) (get_or first root 0)
      begins = chains.start root (omega (arith, is.high, tidy.subtasks))

  module _ {unmet queue : List ℕ} {met done c : ℕ} (s : Search n arrows root first next unmet queue met done c) where
    -- what has an arrow into one whose turn has come leads to the root
    leads_by : {p : ℕ} (i : ℕ) → i ≤ met → Precedes arrows p (turn root queue i) → LeadsTo arrows p root
    unfolding turn
    leads_by zero l a = step a
    leads_by (suc i) l a = leads_on arrows (step a) (s.queued i (omega (arith, l))).1

    -- ---- the arrow at position c comes from p
    module _ {p : ℕ} (at : Looks n arrows (turn root queue done) c p) where
      leads : LeadsTo arrows p root
      leads = leads_by done s.behind (record { place = c - 1; inside = at.inside; begins = sym at.begins; arrives = at.arrives })

      pub search_back : p ≡ root → LeadsTo arrows root root
      search_back e = rw e at leads

      -- p was met before
      skip : get_or unmet p 0 ≡ 0 → Search n arrows root first next unmet queue met done (get_or next (c - 1) 0)
      skip z = record {
        tidy = s.tidy;
        chains = s.chains;
        long_unmet = s.long_unmet;
        long_queue = s.long_queue;
        count = s.count;
        behind = s.behind;
        root_unmet = s.root_unmet;
        queued = s.queued;
        there = s.there;
        along = along_next s.chains at;
        served = λ k l e b. passed_now s.chains at k b e (s.served k l e) (λ _ q. ap (λ (y : ℕ). get_or unmet y 0) q ∙ z);
        before = s.before;
      }

      -- p is met now
      module _ (is_new : get_or unmet p 0 ≢ 0) where
        inside : p < length unmet
        inside = omega (arith, at.from_small, s.long_unmet)

        fewer : tally unplaced (set unmet p 0) n + 1 ≡ tally unplaced unmet n
        fewer = fewer_unplaced unmet 0 inside at.from_is (omega (arith, is_new)) refl

        pub room_for : met < 256
        room_for = omega (arith, s.count, fewer, s.tidy.subtasks)

        still : (v : ℕ) → get_or unmet v 0 ≡ 0 → get_or (set unmet p 0) v 0 ≡ 0
        still v z = kept unmet 0 inside v (λ q. is_new (sym q)) z

        old : (i : ℕ) → i < met → get_or (set queue met p) i 0 ≡ get_or queue i 0
        old i b = get_or-set_other queue met i p 0 (λ q. omega (arith, q, b))

        newest : get_or (set queue met p) met 0 ≡ p
        newest = get_or-set_same queue met p 0 (omega (arith, room_for, s.long_queue))

        same_turn : (i : ℕ) → i ≤ met → turn root (set queue met p) i ≡ turn root queue i
        unfolding turn
        same_turn zero l = refl
        same_turn (suc i) l = old i (omega (arith, l))

        meet : p ≢ root → Search n arrows root first next (set unmet p 0) (set queue met p) (met + 1) done (get_or next (c - 1) 0)
        meet other = record {
          tidy = s.tidy;
          chains = s.chains;
          long_unmet = length-set unmet p 0 ∙ s.long_unmet;
          long_queue = length-set queue met p ∙ s.long_queue;
          count = omega (arith, s.count, fewer);
          behind = omega (arith, s.behind);
          root_unmet = read_set (λ x. x ≢ 0) unmet p 0 root inside (λ q. absurd (other (sym q))) (λ _. s.root_unmet);
          queued = below_more (λ i. Among 1 n (get_or (set queue met p) i 0) × LeadsTo arrows (get_or (set queue met p) i 0) root) met
              (λ i b. rw (old i b) (s.queued i b))
              (rw newest (at.from_is, leads));
          there = λ v t. read_set (λ x. x ≡ 0 → StandsBelow (set queue met p) (met + 1) v) unmet p 0 v inside
              (λ q _. record { place = met; below = omega arith; is = newest ∙ sym q })
              (λ _ z. let w = s.there v t z in record { place = w.place; below = omega (arith, w.below); is = old w.place w.below ∙ w.is });
          along = rw (same_turn done s.behind) (along_next s.chains at);
          served = rw (same_turn done s.behind)
              (λ k l e b. passed_now s.chains at k b e (λ d. still _ (s.served k l e d))
              (λ _ q. ap (λ (y : ℕ). get_or (set unmet p 0) y 0) q ∙ get_or-set_same unmet p 0 0 inside));
          before = λ i b. rw (same_turn i (omega (arith, b, s.behind))) (λ k l e h. still _ (s.before i b k l e h));
        }

    -- ---- the chain is at its end
    module _ (ec : c ≡ 0) where
      all_served : (i : ℕ) → i < done + 1 → Served n arrows unmet (turn root queue i) 0
      all_served = below_more (λ i. Served n arrows unmet (turn root queue i) 0) done s.before (λ k l e _. s.served k l e (omega (arith, ec)))

      -- the next of the queue has its turn
      module _ (nd : done ≢ met) {u : ℕ} (eu : u ≡ get_or queue done 0) where
        is : Among 1 n u
        is = rw eu (s.queued done (omega (arith, nd, s.behind))).0

        pub next_small : (done < 256) × (u < 257)
        next_small = (omega (arith, nd, s.behind, s.count, s.tidy.subtasks), omega (arith, is.high, s.tidy.subtasks))

        next_turn : turn root queue (done + 1) ≡ u
        unfolding turn
        next_turn = let e : done + 1 ≡ suc done = omega arith in ap (λ (i : ℕ). turn root queue i) e ∙ sym eu

        begins : Last (to_of arrows) u (length arrows) (get_or first u 0)
        begins = s.chains.start u next_small.1

        pub turns_left : done < n
        turns_left = omega (arith, nd, s.behind, s.count)

        pub search_next : Search n arrows root first next unmet queue met (done + 1) (get_or first u 0)
        search_next = record {
          tidy = s.tidy;
          chains = s.chains;
          long_unmet = s.long_unmet;
          long_queue = s.long_queue;
          count = s.count;
          behind = omega (arith, nd, s.behind);
          root_unmet = s.root_unmet;
          queued = s.queued;
          there = s.there;
          along = rw next_turn (along_begin begins);
          served = rw next_turn (λ k l e b. absurd (begins.gap k b l e));
          before = all_served;
        }

      -- there is none: what leads to the root was met, and the root was not
      pub search_end : done ≡ met → ¬ LeadsTo arrows root root
      unfolding turn
      search_end ed l = s.root_unmet (all l 0 (omega arith) refl)
        where
          all : {i j : ℕ} → LeadsTo arrows i j → (t : ℕ) → t ≤ done → turn root queue t ≡ j → get_or unmet i 0 ≡ 0
          all (step a) t b e = rw a.begins at (all_served t (omega (arith, b)) a.place a.inside (a.arrives ∙ sym e) (omega arith))
          all (more l a) t b e =
              let z = all_served t (omega (arith, b)) a.place a.inside (a.arrives ∙ sym e) (omega arith) in
              let w = s.there (from_of arrows a.place) (s.tidy.from_in a.place a.inside) z in
              all l (suc w.place) (omega (arith, w.below, ed)) (w.is ∙ a.begins)

-- ---- the same by the flags

module _ {n : ℕ} {arrows : List (List ℕ)} {root : ℕ} {first next : List ℕ} (met : List Bool) {queue : List ℕ} {queued done c : ℕ}
    (s : Search n arrows root first next (unmet_of met) queue queued done c) {p : ℕ} (at : Looks n arrows (turn root queue done) c p) where
  inside_met : p < length met
  inside_met = omega (arith, at.from_small, s.long_unmet, length-map met as_number)

  mark : (b : Bool) → get_or met p false ≡ b → get_or (unmet_of met) p 0 ≡ cond b 0 1
  mark b e = get_or-map as_number met p false 0 inside_met ∙ ap as_number e

  pub search_skip : get_or met p false ≡ true → Search n arrows root first next (unmet_of met) queue queued done (get_or next (c - 1) 0)
  search_skip e = skip s at (mark true e)

  module _ (e : get_or met p false ≡ false) where
    is_new : get_or (unmet_of met) p 0 ≢ 0
    is_new z = omega (arith, z, mark false e)

    pub queue_room : queued < 256
    queue_room = room_for s at is_new

    pub search_meet : p ≢ root → Search n arrows root first next (unmet_of (set met p true)) (set queue queued p) (queued + 1) done (get_or next (c - 1) 0)
    search_meet other = rw (map-set as_number met p true) (meet s at is_new other)
