-- 16 and 17, asked of the processors: from what the exact scans or the sweep say to the answer of the table. Assumes nothing.
use Rattle.std.proofs.Common.{◌≡◌, refl, sym, ◌⊎◌, inl, inr, List, ℕ, ◌≤◌, ◌<◌, None, Some, length, get_or, arith}
use Rattle.std.proofs.Math.Decide.{dec_le, dec_lt}
use Rattle.std.proofs.Math.Logic.{by_cases}
use Rattle.terms.specs.Rows.{Accepted}
use Rattle.terms.specs.Graphs.{IsSubtask, from_of, Precedes}
use Rattle.terms.specs.Plans.{processor_of, start_of, end_of, Placed, RunsAt, ReadyAt, IdleAt}
use Rattle.terms.specs.Refusals.{Share, PairAt, plan_rows, check_rows}
use Rattle.terms.specs.declared.Entry.{Entry}
use Rattle.terms.specs.declared.Refusal.{Refusal}
use Rattle.theory.specs.First.{IsFirstSubtask}
use Rattle.theory.proofs.SoundPlans.{SoundPlan, BusyPlan}
use Rattle.theory.proofs.Answers.{past, from}
use Rattle.theory.proofs.Stops.{stop_pair, stop_lowest}
use Rattle.theory.proofs.Accepted.{accepted_plan, from_subtask, to_subtask}
use Rattle.theory.proofs.Running.{running}
use Rattle.theory.proofs.PlanTests.{share, shared, idle_when_fewer, fewer_when_idle}
use Rattle.theory.proofs.Instants.{idle_at_event}
use Rattle.plancheck.specs.declared.Pair.{Pair}
use Rattle.plancheck.specs.Scans.{Clash, FirstClash, running_among, SomeIdles, Earliest}
use Rattle.plancheck.specs.Sweeps.{Sweepable, ApartAndBusy}
use Rattle.plancheck.proofs.Counts.{among_running}
use Rattle.plancheck.proofs.SubtaskTests.{Prepared, RefusedWith, Left, left_15, served}

module _ {times : List ℕ} {arrows : List (List ℕ)} {M : ℕ} {plan : List Entry} {ready : List ℕ} (known : Prepared times arrows M plan ready) where
  -- no predecessor ends later than the row says
  served_by : (i j : ℕ) → Precedes arrows i j → IsSubtask times j → end_of times plan i ≤ get_or ready j 0
  served_by = served known.given known.placed known.timed known.row

  in_time : (i j : ℕ) → Precedes arrows i j → IsSubtask times j → end_of times plan i ≤ start_of plan j
  in_time i j w s = omega (arith, served_by i j w s, known.ordered j s)

  left_16 : Left times arrows M plan 16
  unfolding plan_rows from
  left_16 = past (left_15 known.given known.placed known.timed)
      (λ h. omega (arith, h.is_so.early, in_time h.is_so.predecessor h.subtask h.is_so.precedes h.is_subtask))

  is_placed : (j : ℕ) → IsSubtask times j → Placed plan j
  is_placed j s = (known.placed j s).low

  -- a subtask that is ready at t has no predecessor that ends later, and starts later
  due_by : (t j : ℕ) → IsSubtask times j → ReadyAt times arrows plan j t → get_or ready j 0 ≤ t
  due_by t j s r = by_cases (dec_le (get_or ready j 0) t) (λ x. x) (λ x.
      let k = (known.row.each j (omega (arith, s.high, known.timed.few))).reached (omega arith) in
      let q = r.served (from_of arrows k.0) (record { place = k.0; inside = k.1; begins = refl; arrives = k.2 }) in
      absurd (omega (arith, q.1, k.3)))

  later_by : (t j : ℕ) → IsSubtask times j → ReadyAt times arrows plan j t → t < start_of plan j
  later_by t j s r = later r.waiting
    where
      later : (t < start_of plan j) ⊎ (¬ Placed plan j) → t < start_of plan j
      later (inl x) = x
      later (inr x) = absurd (x (is_placed j s))

  -- ---- 16: to clash is to share an instant

  clash_by : (i j t : ℕ) → i < j → processor_of plan i ≡ processor_of plan j
      → RunsAt times plan i t → RunsAt times plan j t → Clash times plan i j
  clash_by i j t l e x y =
      let h = shared times plan i j t x y in record {
        after = l;
        same = e;
        left = omega (arith, h.0);
        right = omega (arith, h.1);
      }

  clash_of : (i j : ℕ) → PairAt times (Share times plan) i j → Clash times plan i j
  clash_of i j p = let c = p.are_so in clash_by i j c.instant p.in_order c.same_processor c.runs c.runs_too

  pair_of : (i j : ℕ) → IsSubtask times i → IsSubtask times j → Clash times plan i j → PairAt times (Share times plan) i j
  pair_of i j s q c =
      let u = share times plan i j (is_placed i s) (is_placed j q) (known.given.graph.positive i s) (known.given.graph.positive j q)
      (omega (arith, c.left)) (omega (arith, c.right)) in record {
        lower = s;
        higher = q;
        in_order = c.after;
        are_so = record { two = λ e. omega (arith, e, c.after); same_processor = c.same; instant = u.0; runs = u.1; runs_too = u.2 };
      }

  -- the facts of a plan of which no two subtasks clash
  sound_by : ((i j : ℕ) → IsSubtask times i → IsSubtask times j → ¬ Clash times plan i j) → SoundPlan times arrows M plan
  sound_by none = record {
    processors = known.given.processors;
    whole = known.given.whole;
    placed = known.placed;
    starts = λ j s. omega (arith, known.timed.low j s);
    ordered = λ i j w. in_time i j w (to_subtask known.given.graph w);
    apart = λ i j t s q d e x y. by_cases (dec_lt i j) (λ l. none i j s q (clash_by i j t l e x y))
        (λ l. none j i q s (clash_by j i t (omega (arith, d, l)) (sym e) y x));
  }

  pub answer_16 : {pair : Pair} → FirstClash times plan (Some pair) → {r : Refusal} → RefusedWith times arrows M plan 16 pair.lower.0 pair.higher.0 r
  unfolding plan_rows from FirstClash IsFirstSubtask
  answer_16 {pair} (f, g) =
      let i = pair.lower.0 in
      let j = pair.higher.0 in
      let two = pair_of i j f.0 g.0 g.1 in
      stop_pair left_16
      (record {
        is_so = (j, two);
        least = λ v l p. f.2 v p.1.lower.low l (record { other = p.0; is_subtask = p.1.higher; clash = clash_of v p.0 p.1 });
      })
      (record { is_so = two; least = λ v l p. g.2 v p.higher.low l (clash_of i v p) })

  pub sound_pairs : FirstClash times plan None → SoundPlan times arrows M plan
  unfolding FirstClash IsFirstSubtask
  sound_pairs f = sound_by (λ i j s q c. f i s (record { other = j; is_subtask = q; clash = c }))

  -- ---- 17: the earliest of 0 and the ends is the earliest of all instants
  module _ (sound : SoundPlan times arrows M plan) where
    counted : (t : ℕ) → running_among t times plan ≡ running times plan t
    counted t = among_running times plan t known.given.whole is_placed

    idle_by : (t : ℕ) → SomeIdles times plan ready M t → IdleAt times arrows M plan t
    idle_by t d = idle_when_fewer times arrows M plan d.subtask t d.is_subtask
        (record {
          served = λ i w. (is_placed i (from_subtask known.given.graph w), omega (arith, served_by i d.subtask w d.is_subtask, d.idles.due));
          waiting = inl d.idles.later;
        })
        (omega (arith, d.idles.room, counted t))

    some_idles : (t : ℕ) → IdleAt times arrows M plan t → SomeIdles times plan ready M t
    some_idles t d = record {
      subtask = d.subtask;
      is_subtask = d.is_subtask;
      idles = record {
        room = omega (arith, fewer_when_idle times arrows M plan t sound d, counted t);
        due = due_by t d.subtask d.is_subtask d.ready;
        later = later_by t d.subtask d.is_subtask d.ready;
      };
    }

    left_17 : Left times arrows M plan 17
    unfolding plan_rows from
    left_17 = past left_16 (λ h.
        let j = h.is_so in
        let c = j.is_so in
        sound.apart h.subtask j.subtask c.instant h.is_subtask j.is_subtask c.two c.same_processor c.runs c.runs_too)

    -- an instant at which a subtask idles comes at 0 or at an end at which one does, or later
    event : (u : ℕ) → IdleAt times arrows M plan u → SomeIdles times plan ready M 0 ⊎ ((j : ℕ) × IsSubtask times j × (end_of times plan j ≤ u)
        × SomeIdles times plan ready M (end_of times plan j))
    event u d = at (idle_at_event times arrows M plan known.given.graph u d)
      where
        at : (v : ℕ) × (v ≤ u) × ((v ≡ 0) ⊎ ((j : ℕ) × IsSubtask times j × (end_of times plan j ≡ v))) × IdleAt times arrows M plan v
            → SomeIdles times plan ready M 0 ⊎ ((j : ℕ) × IsSubtask times j × (end_of times plan j ≤ u) × SomeIdles times plan ready M (end_of times plan j))
        at (v, b, inl c, d) = inl (some_idles 0 (rw c at d))
        at (v, b, inr (j, s, c), d) = inr (j, s, omega (arith, c, b), some_idles (end_of times plan j) (rw (← c) at d))

    pub answer_17 : {t : ℕ} → Earliest times plan ready M (length times) (Some t) → {r : Refusal} → RefusedWith times arrows M plan 17 t 0 r
    unfolding plan_rows from Earliest
    answer_17 {t} (some, at0, later) = stop_lowest left_17 (record { is_so = idle_by t some; least = λ u b d. none_before u b (event u d) })
      where
        none_before : (u : ℕ) → u < t → ¬ (SomeIdles times plan ready M 0 ⊎ ((j : ℕ) × IsSubtask times j × (end_of times plan j ≤ u)
            × SomeIdles times plan ready M (end_of times plan j)))
        none_before u b (inl s) = omega (arith, at0 s, b)
        none_before u b (inr (j, s, l, d)) = omega (arith, later j s d, l, b)

    pub busy_instants : Earliest times plan ready M (length times) None → BusyPlan times arrows M plan
    unfolding Earliest
    busy_instants (none, later) = record { sound = sound; busy = λ u d. never (event u d) }
      where
        never : {u : ℕ} → ¬ (SomeIdles times plan ready M 0 ⊎ ((j : ℕ) × IsSubtask times j × (end_of times plan j ≤ u)
            × SomeIdles times plan ready M (end_of times plan j)))
        never (inl s) = none s
        never (inr (j, s, l, d)) = later j s d

  -- ---- neither 16 nor 17, by the sweep
  pub sweepable : Sweepable times M plan ready
  sweepable = record {
    processors = known.given.processors.high;
    positive = known.given.graph.positive;
    placed = known.placed;
    timed = known.timed;
    long_ready = known.row.long;
  }

  pub busy_swept : ApartAndBusy times M plan ready → BusyPlan times arrows M plan
  busy_swept none = record {
    sound = sound_by none.apart;
    busy = λ t d. none.busy d.subtask t d.processor d.is_subtask
        (due_by t d.subtask d.is_subtask d.ready) (later_by t d.subtask d.is_subtask d.ready) d.in_range d.free;
  }

  -- every plan of these facts is accepted
  pub accepted_busy : BusyPlan times arrows M plan → Accepted (check_rows times arrows M plan)
  accepted_busy busy = accepted_plan times arrows M plan known.given.graph busy
