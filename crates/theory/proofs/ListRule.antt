-- What the list rule makes, with the clock at any t; and its plan is accepted. Assumes nothing.
use Rattle.std.proofs.Common.{◌≡◌, sym, ◌∙◌, ◌≢◌, inl, inr, ⊎_elim, List, ℕ, suc, ◌+◌, ◌*◌, ◌≤◌, ◌<◌, zero-mul, one-mul, arith, length, replicate}
use Rattle.std.proofs.Math.Logic.{by_cases}
use Rattle.std.proofs.Math.Decide.{dec_lt, ℕ_discrete}
use Rattle.std.proofs.lemmas.List.{length-replicate}
use Rattle.terms.specs.Graphs.{Among, IsSubtask, time_of, Precedes}
use Rattle.terms.specs.Paths.{total_work}
use Rattle.terms.specs.Plans.{not_placed, processor_of, start_of, end_of, Placed, RunsAt, IdleAt}
use Rattle.terms.specs.ListRule.{IsOrder, Goes, put, ByRule, begin, goes, tick, IsListPlan}
use Rattle.terms.specs.declared.Entry.{Entry}
use Rattle.theory.specs.Sound.{SoundGraph}
use Rattle.theory.proofs.SoundPlans.{BusyPlan}
use Rattle.theory.proofs.Accepted.{from_subtask, to_subtask}
use Rattle.terms.specs.Sums.{sum}
use Rattle.theory.specs.Counting.{bit}
use Rattle.theory.proofs.Sums.{sum_le, sum_add, sum_const, sum_swap, bit_yes, bit_no}
use Rattle.theory.proofs.Work.{total_sum}
use Rattle.theory.proofs.Paths.{own}
use Rattle.theory.proofs.Running.{runs, running, counted, runs_none, runs_most}
use Rattle.theory.proofs.NoGap.{some_runs}
use Rattle.theory.proofs.Placing.{put_length, put_processor, put_start, keep_processor, keep_start, none_placed}

-- what a plan in the making has with the clock at t
pub record SoFar (times : List ℕ) (arrows : List (List ℕ)) (M t : ℕ) (plan : List Entry) : Type 0 where
  pub whole : length plan ≡ length times
  pub range : (j : ℕ) → IsSubtask times j → Placed plan j → processor_of plan j ≤ M
  pub begun : (j : ℕ) → IsSubtask times j → Placed plan j → start_of plan j ≤ t
  pub ordered : (i j : ℕ) → Precedes arrows i j → Placed plan j → Placed plan i × (end_of times plan i ≤ start_of plan j)
  pub apart : (i j u : ℕ) → IsSubtask times i → IsSubtask times j → i ≢ j → processor_of plan i ≡ processor_of plan j → RunsAt times plan i u
      → ¬ RunsAt times plan j u
  pub busy : (u : ℕ) → u < t → ¬ IdleAt times arrows M plan u

module _ (times : List ℕ) (arrows : List (List ℕ)) (M : ℕ) (g : SoundGraph times arrows) where
  so_far_begin : SoFar times arrows M 0 (replicate (length times) not_placed)
  so_far_begin = record {
    whole = length-replicate (length times) not_placed;
    range = λ j s b. absurd (omega (arith, none_placed times j s));
    begun = λ j s b. absurd (omega (arith, none_placed times j s));
    ordered = λ i j w b. absurd (omega (arith, none_placed times j (to_subtask g w)));
    apart = λ i j u s r d e x y. omega (arith, x.placed, none_placed times i s);
    busy = λ u l. absurd (omega arith);
  }

  so_far_tick : (t : ℕ) (plan : List Entry) → SoFar times arrows M t plan → ¬ IdleAt times arrows M plan t → SoFar times arrows M (suc t) plan
  so_far_tick t plan v h = record {
    whole = v.whole;
    range = v.range;
    begun = λ j s b. omega (arith, v.begun j s b);
    ordered = v.ordered;
    apart = v.apart;
    busy = λ u l. by_cases (ℕ_discrete u t) (λ e. rw e h) (λ e. v.busy u (omega arith));
  }

  module _ (order : List ℕ) (t : ℕ) (plan : List Entry) (v : SoFar times arrows M t plan) (j p : ℕ) (s : IsSubtask times j)
      (go : Goes times arrows order M plan t j p) where
    high : j ≤ length plan
    high = rw v.whole s.high

    pub unplaced : ¬ Placed plan j
    unplaced b = ⊎_elim (λ l. omega (arith, v.begun j s b)) (λ h. h b) go.ready.waiting

    pub new_processor : processor_of (put plan j p t) j ≡ p
    new_processor = put_processor plan j p t s.low high

    new_start : start_of (put plan j p t) j ≡ t
    new_start = put_start plan j p t s.low high

    new_end : end_of times (put plan j p t) j ≡ t + time_of times j
    unfolding end_of
    new_end = omega (arith, new_start)

    pub old_processor : (k : ℕ) → IsSubtask times k → k ≢ j → processor_of (put plan j p t) k ≡ processor_of plan k
    old_processor k r h = keep_processor plan j p t k s.low r.low h

    old_start : (k : ℕ) → IsSubtask times k → k ≢ j → start_of (put plan j p t) k ≡ start_of plan k
    old_start k r h = keep_start plan j p t k s.low r.low h

    old_end : (k : ℕ) → IsSubtask times k → k ≢ j → end_of times (put plan j p t) k ≡ end_of times plan k
    unfolding end_of
    old_end k r h = omega (arith, old_start k r h)

    -- a subtask other than j runs as before
    runs_old : (k u : ℕ) → IsSubtask times k → k ≢ j → RunsAt times (put plan j p t) k u → RunsAt times plan k u
    runs_old k u r h x = record {
      placed = omega (arith, x.placed, old_processor k r h);
      begun = omega (arith, x.begun, old_start k r h);
      unended = omega (arith, x.unended, old_end k r h);
    }

    runs_new : (k u : ℕ) → IsSubtask times k → k ≢ j → RunsAt times plan k u → RunsAt times (put plan j p t) k u
    runs_new k u r h x = record {
      placed = omega (arith, x.placed, old_processor k r h);
      begun = omega (arith, x.begun, old_start k r h);
      unended = omega (arith, x.unended, old_end k r h);
    }

    -- j shares no instant with a subtask that was there on p
    clear : (k u : ℕ) → IsSubtask times k → k ≢ j → processor_of (put plan j p t) k ≡ p → RunsAt times (put plan j p t) k u → ¬ RunsAt times (put plan j p t) j u
    clear k u r h e x y =
        let z = runs_old k u r h x in
        go.free k r (sym (old_processor k r h) ∙ e) (record {
          placed = z.placed;
          begun = v.begun k r z.placed;
          unended = omega (arith, z.unended, y.begun, new_start);
        })

    -- before t nothing is ready that was not
    idle_old : (u : ℕ) → u < t → IdleAt times arrows M (put plan j p t) u → IdleAt times arrows M plan u
    idle_old u l d = record {
      subtask = d.subtask;
      is_subtask = d.is_subtask;
      ready = record {
        served = λ i w.
            let x = d.ready.served i w in
            let r = from_subtask g w in
            let h : i ≢ j = λ e. let z : end_of times (put plan j p t) j ≤ u = rw e at x.1 in omega (arith, new_end) in
            (omega (arith, x.0, old_processor i r h), omega (arith, x.1, old_end i r h));
        waiting = by_cases (ℕ_discrete d.subtask j) (λ e. inr (rw e unplaced)) (λ h. ⊎_elim
            (λ x. inl (omega (arith, old_start d.subtask d.is_subtask h)))
            (λ x. inr (λ b. x (omega (arith, old_processor d.subtask d.is_subtask h))))
            d.ready.waiting);
      };
      processor = d.processor;
      in_range = d.in_range;
      free = λ k r e x.
          let h : k ≢ j = λ q. unplaced (rw q at x.placed) in
          d.free k r (old_processor k r h ∙ e) (runs_new k u r h x);
    }

    ordered_new : (i k : ℕ) → Precedes arrows i k → Placed (put plan j p t) k
        → Placed (put plan j p t) i × (end_of times (put plan j p t) i ≤ start_of (put plan j p t) k)
    ordered_new i k w b = by_cases (ℕ_discrete k j)
        (λ e.
        let x = go.ready.served i (rw e at w) in
        let h : i ≢ j = λ q. unplaced (rw q at x.0) in
        rw e (omega (arith, x.0, old_processor i r h), omega (arith, x.1, old_end i r h, new_start)))
        (λ d.
        let q = to_subtask g w in
        let x = v.ordered i k w (omega (arith, old_processor k q d)) in
        let h : i ≢ j = λ q. unplaced (rw q at x.0) in
        (omega (arith, x.0, old_processor i r h), omega (arith, x.1, old_end i r h, old_start k q d)))
      where
        r : IsSubtask times i
        r = from_subtask g w

    apart_new : (i k u : ℕ) → IsSubtask times i → IsSubtask times k → i ≢ k → processor_of (put plan j p t) i ≡ processor_of (put plan j p t) k
        → RunsAt times (put plan j p t) i u → ¬ RunsAt times (put plan j p t) k u
    apart_new i k u r q d e x y = by_cases (ℕ_discrete i j)
        (λ a. clear k u q (λ b. d (a ∙ sym b)) (sym e ∙ rw a new_processor) y (rw a at x))
        (λ a. by_cases (ℕ_discrete k j)
        (λ b. clear i u r a (e ∙ rw b new_processor) x (rw b at y))
        (λ b. v.apart i k u r q d (sym (old_processor i r a) ∙ e ∙ old_processor k q b) (runs_old i u r a x) (runs_old k u q b y)))

    so_far_goes : SoFar times arrows M t (put plan j p t)
    so_far_goes = record {
      whole = put_length plan j p t ∙ v.whole;
      range = λ k r b. by_cases (ℕ_discrete k j) (λ e. rw (e, new_processor) go.in_range.high)
          (λ h. omega (arith, old_processor k r h, v.range k r (omega (arith, old_processor k r h))));
      begun = λ k r b. by_cases (ℕ_discrete k j) (λ e. rw e (omega (arith, new_start)))
          (λ h. omega (arith, old_start k r h, v.begun k r (omega (arith, old_processor k r h))));
      ordered = ordered_new;
      apart = apart_new;
      busy = λ u l d. v.busy u l (idle_old u l d);
    }

  -- it holds along the rule
  pub by_rule : (order : List ℕ) → IsOrder times order → {t : ℕ} {plan : List Entry} → ByRule times arrows order M t plan → SoFar times arrows M t plan
  by_rule order o begin = so_far_begin
  by_rule order o (goes {t = t} {plan = plan} r j p h) = so_far_goes order t plan (by_rule order o r) j p (rw h.stands at (o.each h.place h.inside)) h
  by_rule order o (tick {t = t} {plan = plan} r h) = so_far_tick t plan (by_rule order o r) h

  module _ (t : ℕ) (plan : List Entry) (one : 1 ≤ M) (v : SoFar times arrows M t plan) where
    -- up to any instant at most all the work is done
    work_done : (e : ℕ) → sum e (λ u. running times plan u) ≤ total_work times
    unfolding running
    work_done e =
        let x = sum_swap e (length times) (λ u i. runs times plan (suc i) u) in
        let y : sum (length times) (λ i. sum e (λ u. runs times plan (suc i) u)) ≤ sum (length times) (λ i. time_of times (suc i)) =
        sum_le (length times) _ _ (λ i l. runs_most times plan e (suc i)) in
        omega (arith, total_sum times)

    -- and less, where j is not placed
    work_left : (j : ℕ) → IsSubtask times j → ¬ Placed plan j → sum t (λ u. running times plan u) + time_of times j ≤ total_work times
    unfolding running
    work_left j s h =
        let x = sum_swap t (length times) (λ u i. runs times plan (suc i) u) in
        let y = sum_add (length times) (λ i. sum t (λ u. runs times plan (suc i) u)) (λ i. bit (ℕ_discrete (suc i) j) * time_of times (suc i)) in
        let z : sum (length times) (λ i. sum t (λ u. runs times plan (suc i) u) + bit (ℕ_discrete (suc i) j) * time_of times (suc i)) ≤ sum
        (length times) (λ i. time_of times (suc i)) =
        sum_le (length times) _ _ (λ i l. by_cases (ℕ_discrete (suc i) j)
        (λ e. rw (bit_yes (ℕ_discrete (suc i) j) e, one-mul) (omega (arith, runs_none times plan t (suc i) (rw e h))))
        (λ e. rw (bit_no (ℕ_discrete (suc i) j) e, zero-mul) (omega (arith, runs_most times plan t (suc i))))) in
        omega (arith, total_sum times, own times j s)

    -- so what is not placed yet is placed before the clock comes to C
    pub still_early : (j : ℕ) → IsSubtask times j → ¬ Placed plan j → t < total_work times
    still_early j s h =
        let x : sum t (λ u. 1) ≤ sum t (λ u. running times plan u) = sum_le t _ _ (λ u l. some_runs times arrows M plan u g one (v.busy u l) j s (inr h)) in
        omega (arith, sum_const t 1, work_left j s h, g.positive j s)

    -- a placed subtask ends by C
    pub ends_early : (j : ℕ) → IsSubtask times j → Placed plan j → end_of times plan j ≤ total_work times
    ends_early j s b =
        let k = end_of times plan j in
        let x : sum k (λ u. 1) ≤ sum k (λ u. running times plan u) = sum_le k _ _ (λ u l. by_cases (dec_lt u (start_of plan j))
        (λ a. some_runs times arrows M plan u g one (v.busy u (omega (arith, v.begun j s b))) j s (inl a))
        (λ a. counted times plan j u s (record { placed = b; begun = omega arith; unended = l }))) in
        omega (arith, sum_const k 1, work_done k)

    starts_early : (j : ℕ) → IsSubtask times j → Placed plan j → start_of plan j ≤ total_work times
    unfolding end_of
    starts_early j s b = let x = ends_early j s b in omega arith

  -- the list plan is accepted
  pub list_busy : (order : List ℕ) (plan : List Entry) → IsOrder times order → Among 1 16 M → total_work times ≤ 16776960
      → IsListPlan times arrows order M plan → BusyPlan times arrows M plan
  list_busy order plan o m c q = record {
    sound = record {
      processors = m;
      whole = v.whole;
      placed = λ j s. record { low = q.all j s; high = v.range j s (q.all j s) };
      starts = λ j s. omega (arith, starts_early q.clock plan m.low v j s (q.all j s));
      ordered = λ i j w. (v.ordered i j w (q.all j (to_subtask g w))).1;
      apart = v.apart;
    };
    busy = λ t d. by_cases (dec_lt t q.clock) (λ l. v.busy t l d) (λ l. let b = q.all d.subtask d.is_subtask in
        ⊎_elim (λ x. omega (arith, v.begun d.subtask d.is_subtask b)) (λ x. x b) d.ready.waiting);
  }
    where
      v : SoFar times arrows M q.clock plan
      v = by_rule order o q.made
