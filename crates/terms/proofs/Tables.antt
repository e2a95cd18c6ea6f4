-- A whole table, a longest path and a list plan over given numbers are found by computing. Assumes nothing.
use Rattle.std.proofs.Common.{◌≡◌, refl, ◌⊎◌, inl, inr, List, ℕ, zero, suc, ◌+◌, ◌-◌, ◌≤◌, ◌<◌, arith, length, get_or, replicate}
use mathlib.Core.Logic.Dec
use Rattle.std.proofs.Math.Decide.{dec_le, dec_lt, ℕ_discrete}
use Rattle.terms.specs.Graphs.{Among, IsSubtask, time_of, from_of, to_of, Precedes, LeadsTo, step, more}
use Rattle.terms.specs.Paths.{PathTo, alone, along, weight, IsLongest}
use Rattle.terms.specs.Plans.{not_placed, Placed, processor_of, start_of, end_of, EndsAt, ReadyAt, FreeAt, IdleAt}
use Rattle.terms.specs.ListRule.{Goes, put, ByRule, begin, goes, tick}
use Rattle.terms.specs.Refusals.{count_rows, time_rows, subtask_rows, size_rows, arrow_rows, graph_rows, processor_rows, on_rows, deadline_rows}
use Rattle.terms.specs.Refusals.{order_rows, plan_rows, verdict_rows, list_rows, check_rows, lowest, earliest}
use Rattle.terms.specs.declared.Entry.{Entry}
use Rattle.terms.proofs.Decide.{via, Least, seek, dec_all, dec_each, dec_among, dec_some_subtask, dec_repeats, dec_order}
use Rattle.terms.proofs.Decide.{dec_ready, dec_free, dec_idle, dec_starts_early, share_turned, dec_share}
use Rattle.terms.proofs.Decisions.{Decision, dec_plain, dec_first_subtask, dec_first_arrow, dec_lowest, dec_smallest_pair, Decided, none, and, then}

-- ---- a table of finish times: no path weighs more, and no cycle is closed

abbrev pub finish_of : List ℕ → ℕ → ℕ
finish_of finish j = get_or finish (j - 1) 0

pub record Finishes (times : List ℕ) (arrows : List (List ℕ)) (finish : List ℕ) (P : ℕ) : Type 0 where
  pub own : (j : ℕ) → IsSubtask times j → Among (time_of times j) P (finish_of finish j)
  pub onward : (a : ℕ) → a < length arrows → finish_of finish (from_of arrows a) + time_of times (to_of arrows a) ≤ finish_of finish (to_of arrows a)
  pub rises : (a : ℕ) → a < length arrows → finish_of finish (from_of arrows a) < finish_of finish (to_of arrows a)
  pub within : (a : ℕ) → a < length arrows → finish_of finish (to_of arrows a) ≤ P

unfoldable pub dec_finishes : (times : List ℕ) (arrows : List (List ℕ)) (finish : List ℕ) (P : ℕ) → Dec (Finishes times arrows finish P)
unfolding via Dec.and dec_each dec_all dec_among dec_le dec_lt
dec_finishes times arrows finish P = via
    (λ x. record { own = x.0; onward = x.1.0; rises = x.1.1.0; within = x.1.1.1 })
    (λ f. (f.own, (f.onward, (f.rises, f.within))))
    (Dec.and (dec_each (length times) (λ j. Among (time_of times j) P (finish_of finish j)) (λ j. dec_among (time_of times j) P (finish_of finish j)))
    (Dec.and (dec_all (length arrows) (λ a. finish_of finish (from_of arrows a) + time_of times (to_of arrows a) ≤ finish_of finish (to_of arrows a))
    (λ a. dec_le (finish_of finish (from_of arrows a) + time_of times (to_of arrows a)) (finish_of finish (to_of arrows a))))
    (Dec.and (dec_all (length arrows) (λ a. finish_of finish (from_of arrows a) < finish_of finish (to_of arrows a))
    (λ a. dec_lt (finish_of finish (from_of arrows a)) (finish_of finish (to_of arrows a))))
    (dec_all (length arrows) (λ a. finish_of finish (to_of arrows a) ≤ P) (λ a. dec_le (finish_of finish (to_of arrows a)) P)))))

module _ (times : List ℕ) (arrows : List (List ℕ)) (finish : List ℕ) (P : ℕ) (f : Finishes times arrows finish P) where
  along_arrow : (i j : ℕ) → Precedes arrows i j
      → (finish_of finish i + time_of times j ≤ finish_of finish j) × (finish_of finish i < finish_of finish j) × (finish_of finish j ≤ P)
  along_arrow i j w = (
    rw (w.begins, w.arrives) at (f.onward w.place w.inside),
    rw (w.begins, w.arrives) at (f.rises w.place w.inside),
    rw w.arrives at (f.within w.place w.inside),
  )

  leads_up : {i j : ℕ} → LeadsTo arrows i j → finish_of finish i < finish_of finish j
  leads_up {i} (step {j = j} w) = (along_arrow i j w).1
  leads_up (more {k = k} {j = j} l w) = omega (arith, leads_up l, (along_arrow k j w).1)

  pub no_cycle : ¬ ((j : ℕ) × LeadsTo arrows j j)
  no_cycle (j, l) = let x = leads_up l in omega arith

  weighs : {j : ℕ} (path : PathTo times arrows j) → (weight path ≤ finish_of finish j) × (finish_of finish j ≤ P)
  unfolding weight
  weighs (alone j s) = ((f.own j s).low, (f.own j s).high)
  weighs (along {i = i} path j w) = let x = weighs path in let y = along_arrow i j w in (omega (arith, x.0, y.0), y.2)

  pub longest_by : (j : ℕ) (path : PathTo times arrows j) → weight path ≡ P → IsLongest times arrows P
  longest_by j path e = record { reached = (j, path, e); most = λ k p. let x = weighs p in omega (arith, x.0, x.1) }

-- ---- the tables of docs/PLANNER.md

unfoldable pub graph_decided : (times : List ℕ) (arrows : List (List ℕ)) → Decision (lowest 7 (λ j. LeadsTo arrows j j)) → Decided (graph_rows times arrows)
unfolding graph_rows subtask_rows count_rows time_rows size_rows arrow_rows dec_plain dec_first_subtask dec_first_arrow dec_repeats dec_among Dec.and Dec.not dec_lt ℕ_discrete
graph_decided times arrows cycle =
    and (dec_plain _ _ (Dec.not (dec_among _ _ _)))
    (and (dec_first_subtask _ _ _ (λ j. ℕ_discrete _ _))
    (and (dec_plain _ _ (dec_lt _ _))
    (and (dec_first_arrow _ _ _ (λ a. Dec.not (Dec.and (dec_among _ _ _) (dec_among _ _ _))))
    (and (dec_first_arrow _ _ _ (λ a. ℕ_discrete _ _))
    (and (dec_first_arrow _ _ _ (dec_repeats _))
    (and cycle none))))))

unfoldable pub on_decided : (times : List ℕ) (arrows : List (List ℕ)) (M : ℕ) → Decision (lowest 7 (λ j. LeadsTo arrows j j)) → Decided (on_rows times arrows M)
unfolding on_rows processor_rows graph_decided then dec_plain dec_among Dec.not
on_decided times arrows M cycle = then (graph_decided times arrows cycle) (and (dec_plain _ _ (Dec.not (dec_among _ _ _))) none)

unfoldable pub verdict_decided : (times : List ℕ) (arrows : List (List ℕ)) (M D : ℕ) → Decision (lowest 7 (λ j. LeadsTo arrows j j))
    → Decided (verdict_rows times arrows M D)
unfolding verdict_rows deadline_rows on_decided then dec_plain dec_among Dec.not
verdict_decided times arrows M D cycle = then (on_decided times arrows M cycle) (and (dec_plain _ _ (Dec.not (dec_among _ _ _))) none)

unfoldable pub list_decided : (times : List ℕ) (arrows : List (List ℕ)) (M : ℕ) (order : List ℕ) (room : ℕ) → Decision (lowest 7 (λ j. LeadsTo arrows j j))
    → Decided (list_rows times arrows M order room)
unfolding list_rows order_rows on_decided then dec_plain dec_order dec_lt Dec.not
list_decided times arrows M order room cycle =
    then (on_decided times arrows M cycle) (and (dec_plain _ _ (Dec.not (dec_order _ _))) (and (dec_plain _ _ (dec_lt _ _)) none))

-- 17 where every subtask is placed and none starts after K: no later instant need be asked
unfoldable pub dec_idle_sometime : (times : List ℕ) (arrows : List (List ℕ)) (M : ℕ) (plan : List Entry) (K : ℕ)
    → ((j : ℕ) → IsSubtask times j → Placed plan j × (start_of plan j ≤ K)) → Decision (earliest 17 (IdleAt times arrows M plan))
unfolding dec_lowest dec_idle
dec_idle_sometime times arrows M plan K begun =
    dec_lowest 17 (IdleAt times arrows M plan) K (λ t d. soon t d d.ready.waiting) (dec_idle times arrows M plan)
  where
    soon : (t : ℕ) (d : IdleAt times arrows M plan t) → (t < start_of plan d.subtask) ⊎ (¬ Placed plan d.subtask) → t < K
    soon t d (inl l) = omega (arith, (begun d.subtask d.is_subtask).1)
    soon t d (inr h) = absurd (h (begun d.subtask d.is_subtask).0)

unfoldable pub check_decided : (times : List ℕ) (arrows : List (List ℕ)) (M : ℕ) (plan : List Entry) (K : ℕ)
    → Decision (lowest 7 (λ j. LeadsTo arrows j j)) → ((j : ℕ) → IsSubtask times j → Placed plan j × (start_of plan j ≤ K)) → Decided (check_rows times arrows M plan)
unfolding check_rows plan_rows on_decided then dec_plain dec_first_subtask dec_smallest_pair dec_among dec_starts_early dec_share dec_idle_sometime Dec.not dec_lt ℕ_discrete
check_decided times arrows M plan K cycle begun =
    then (on_decided times arrows M cycle)
    (and (dec_plain _ _ (Dec.not (ℕ_discrete _ _)))
    (and (dec_first_subtask _ _ _ (λ j. Dec.not (dec_among _ _ _)))
    (and (dec_first_subtask _ _ _ (λ j. dec_lt _ _))
    (and (dec_first_subtask _ _ _ (dec_starts_early _ _ _))
    (and (dec_smallest_pair _ _ _ share_turned (λ i j s. s.two) (dec_share _ _))
    (and (dec_idle_sometime times arrows M plan K begun) none))))))

-- ---- the list rule, step by step

pub record Made (times : List ℕ) (arrows : List (List ℕ)) (order : List ℕ) (M : ℕ) : Type 0 where
  pub clock : ℕ
  pub plan : List Entry
  pub made : ByRule times arrows order M clock plan

module _ (times : List ℕ) (arrows : List (List ℕ)) (order : List ℕ) (M : ℕ) where
  -- the ready subtask earliest in the order, by its place there, and the free processor with the lowest number, less 1
  abbrev pub FirstReady : List Entry → ℕ → Type 0
  FirstReady plan t = Least (length order) (λ x. ReadyAt times arrows plan (get_or order x 0) t)

  abbrev pub LowestFree : List Entry → ℕ → Type 0
  LowestFree plan t = Least M (λ p. FreeAt times plan (suc p) t)

  pub one_goes : (plan : List Entry) (t : ℕ) (x : FirstReady plan t) (p : LowestFree plan t)
      → Goes times arrows order M plan t (get_or order x.place 0) (suc p.place)
  one_goes plan t x p = record {
    place = x.place;
    inside = x.inside;
    stands = refl;
    ready = x.holds;
    earliest = λ y l. x.before y (omega (arith, l));
    in_range = record { low = omega arith; high = omega (arith, p.inside) };
    free = p.holds;
    lowest = λ q a l. let e : suc (q - 1) ≡ q = omega (arith, a.low) in rw e at (p.before (q - 1) (omega (arith, a.low)));
  }

  unfoldable pub stepped : Made times arrows order M → Made times arrows order M
  unfolding seek dec_ready dec_free dec_idle put
  stepped m = go
      (seek (length order) (λ x. ReadyAt times arrows m.plan (get_or order x 0) m.clock) (λ x. dec_ready times arrows m.plan (get_or order x 0) m.clock))
      (seek M (λ p. FreeAt times m.plan (suc p) m.clock) (λ p. dec_free times m.plan (suc p) m.clock))
      (dec_idle times arrows M m.plan m.clock)
    where
      ticked : ¬ IdleAt times arrows M m.plan m.clock → Made times arrows order M
      ticked h = record { clock = suc m.clock; plan = m.plan; made = tick m.made h }

      go : FirstReady m.plan m.clock ⊎ ((x : ℕ) → x < length order → ¬ ReadyAt times arrows m.plan (get_or order x 0) m.clock)
          → LowestFree m.plan m.clock ⊎ ((p : ℕ) → p < M → ¬ FreeAt times m.plan (suc p) m.clock)
          → Dec (IdleAt times arrows M m.plan m.clock) → Made times arrows order M
      go (inl x) (inl p) d = record {
        clock = m.clock;
        plan = put m.plan (get_or order x.place 0) (suc p.place) m.clock;
        made = goes m.made (get_or order x.place 0) (suc p.place) (one_goes m.plan m.clock x p);
      }
      go (inl x) (inr h) (no i) = ticked i
      go (inl x) (inr h) (yes i) = m
      go (inr h) p (no i) = ticked i
      go (inr h) p (yes i) = m

  -- what the rule has made after so many steps
  unfoldable pub after : ℕ → Made times arrows order M
  unfolding stepped
  after zero = record { clock = 0; plan = replicate (length times) not_placed; made = begin }
  after (suc k) = stepped (after k)

-- where a plan ends
unfoldable pub dec_ends : (times : List ℕ) (plan : List Entry) (E : ℕ) → Dec (EndsAt times plan E)
unfolding via Dec.and dec_some_subtask dec_each dec_le ℕ_discrete
dec_ends times plan E = via
    (λ x. record { reached = (x.0.subtask, x.0.is_subtask, x.0.is_so); most = x.1 })
    (λ e. (record { subtask = e.reached.0; is_subtask = e.reached.1; is_so = e.reached.2 }, e.most))
    (Dec.and (dec_some_subtask times (λ j. end_of times plan j ≡ E) (λ j. ℕ_discrete (end_of times plan j) E))
    (dec_each (length times) (λ j. end_of times plan j ≤ E) (λ j. dec_le (end_of times plan j) E)))

-- every subtask is placed, and none starts after K
unfoldable pub dec_begun : (times : List ℕ) (plan : List Entry) (K : ℕ) → Dec ((j : ℕ) → IsSubtask times j → Placed plan j × (start_of plan j ≤ K))
unfolding dec_each Dec.and dec_le
dec_begun times plan K =
    dec_each (length times) (λ j. Placed plan j × (start_of plan j ≤ K)) (λ j. Dec.and (dec_le 1 (processor_of plan j)) (dec_le (start_of plan j) K))
