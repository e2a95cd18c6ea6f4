-- A subtask starts: the step of the list rule, and the tables after it. Assumes nothing.
use Rattle.std.proofs.Common.{◌≡◌, refl, sym, ap, ◌∙◌, ◌≢◌, List, Bool, true, false, Option, None, ℕ, ◌+◌, ◌≤◌, ◌<◌, arith, length, get_or, set, length-set}
use Rattle.std.proofs.Math.Decide.{dec_lt, ℕ_discrete}
use Rattle.std.proofs.Math.Logic.{by_cases}
use Rattle.terms.specs.Graphs.{Among, IsSubtask, time_of, from_of, to_of}
use Rattle.terms.specs.Plans.{processor_of, start_of, end_of}
use Rattle.terms.specs.ListRule.{put, Goes, ByRule, goes}
use Rattle.terms.specs.declared.Entry.{Entry}
use Rattle.terms.specs.declared.Processor.{Processor}
use Rattle.theory.specs.First.{FirstBelow}
use Rattle.theory.proofs.Stores.{read_set}
use Rattle.theory.proofs.Counting.{count_same}
use Rattle.theory.proofs.Placing.{put_length, put_processor, put_start, keep_processor, keep_start}
use Rattle.forms.specs.Forms.{never}
use Rattle.listplan.specs.Making.{IsJob, Unended, waits, runs, Holding, unended, uncounted, Open, IsOn, Holders, Lefts, Marks, Making, IsMarked, IsFree, FirstOf}
use Rattle.listplan.proofs.Bits.{read_bit, none_true}
use Rattle.listplan.proofs.Following.{Following}
use Rattle.listplan.proofs.Scans.{unmarked_low}
use Rattle.listplan.proofs.Ready.{open_ready, is_free, is_busy, ready_open}

-- subtask j, at place x of the order, starts on processor p
module _ {times : List ℕ} {arrows : List (List ℕ)} {order : List ℕ} {M : ℕ} {first next rank : List ℕ} (job : IsJob times arrows order M first next rank)
    {t : ℕ} {L : List ℕ} {R : List Bool} {U W : List ℕ} {P : List Entry} (mk : Making times arrows order M t 0 L R U W P) (later : (p : ℕ) → Among 1 M p → t < get_or U p 0)
    {x p j : ℕ} (fm : FirstBelow (IsMarked R) (length order) x) (ff : FirstBelow (IsFree W) (M + 1) p) (inside : x < length order) (pm : Among 1 M p)
    (stands : j ≡ get_or order x 0) where
  s : IsSubtask times j
  s = rw stands (job.is_order.each x inside)

  pub opened : Open arrows P W 0 j
  opened = rw stands (mk.marks.opens x inside (fm.here inside))

  pub nobody : IsFree W p
  nobody = ff.here (omega (arith, pm.high))

  abbrev P' : List Entry
  P' = put P j p t

  abbrev U' : List ℕ
  U' = set U p (t + time_of times j)

  abbrev W' : List ℕ
  W' = set W p j

  abbrev R' : List Bool
  R' = set R x false

  in_until : p < length U
  in_until = omega (arith, mk.holders.long_until, pm.high, job.within.high)

  in_who : p < length W
  in_who = omega (arith, mk.holders.long_who, pm.high, job.within.high)

  in_ready : x < length R
  in_ready = omega (arith, mk.marks.long, job.is_order.whole, job.graph.count.high)

  in_plan : j ≤ length P
  in_plan = omega (arith, s.high, mk.whole)

  processor_new : processor_of P' j ≡ p
  processor_new = put_processor P j p t s.low in_plan

  processor_old : (k : ℕ) → IsSubtask times k → k ≢ j → processor_of P' k ≡ processor_of P k
  processor_old k r h = keep_processor P j p t k s.low r.low h

  start_new : start_of P' j ≡ t
  start_new = put_start P j p t s.low in_plan

  start_old : (k : ℕ) → IsSubtask times k → k ≢ j → start_of P' k ≡ start_of P k
  start_old k r h = keep_start P j p t k s.low r.low h

  end_new : end_of times P' j ≡ t + time_of times j
  unfolding end_of
  end_new = omega (arith, start_new)

  end_old : (k : ℕ) → IsSubtask times k → k ≢ j → end_of times P' k ≡ end_of times P k
  unfolding end_of
  end_old k r h = omega (arith, start_old k r h)

  -- j is on its processor
  there : Unended P' W' j
  there = runs (read_set (λ y. y ≡ j) W p j (processor_of P' j) in_who (λ _. refl) (λ n. absurd (n processor_new)))

  unended_keep : (k : ℕ) → IsSubtask times k → Unended P W k → Unended P' W' k
  unended_keep k r u = by_cases (ℕ_discrete k j) (λ e. rw e there) (λ h. go h u)
    where
      go : k ≢ j → Unended P W k → Unended P' W' k
      go h (waits z) = waits (processor_old k r h ∙ z)
      go h (runs z) = runs (rw (processor_old k r h) (read_set (λ y. y ≡ k) W p j (processor_of P k) in_who
          (λ e. let y : get_or W p 0 ≡ k = rw e at z in absurd (omega (arith, nobody.nobody, r.low)))
          (λ _. z)))

  unended_back : (k : ℕ) → IsSubtask times k → Unended P' W' k → Unended P W k
  unended_back k r u = by_cases (ℕ_discrete k j) (λ e. rw e (waits opened.unplaced)) (λ h. go h u)
    where
      go : k ≢ j → Unended P' W' k → Unended P W k
      go h (waits z) = waits (sym (processor_old k r h) ∙ z)
      go h (runs z) =
          let z' : get_or W' (processor_of P k) 0 ≡ k = rw (processor_old k r h) at z in
          runs (read_set (λ y. y ≡ k → get_or W (processor_of P k) 0 ≡ k) W p j (processor_of P k) in_who (λ _ e. absurd (h (sym e))) (λ _ e. e) z')

  keep : (a : ℕ) → a < length arrows → Holding arrows P W 0 a → Holding arrows P' W' 0 a
  keep a l (unended u) = unended (unended_keep (from_of arrows a) (job.graph.named a l).0 u)
  keep a l (uncounted m e) = absurd (omega arith)

  back : (a : ℕ) → a < length arrows → Holding arrows P' W' 0 a → Holding arrows P W 0 a
  back a l (unended u) = unended (unended_back (from_of arrows a) (job.graph.named a l).0 u)
  back a l (uncounted m e) = absurd (omega arith)

  open_keep : (k : ℕ) → IsSubtask times k → k ≢ j → Open arrows P W 0 k → Open arrows P' W' 0 k
  open_keep k r h o = record { unplaced = processor_old k r h ∙ o.unplaced; served = λ a l e b. o.served a l e (back a l b) }

  open_back : (k : ℕ) → IsSubtask times k → k ≢ j → Open arrows P' W' 0 k → Open arrows P W 0 k
  open_back k r h o = record { unplaced = sym (processor_old k r h) ∙ o.unplaced; served = λ a l e b. o.served a l e (keep a l b) }

  -- another place of the order holds another subtask
  other : (y : ℕ) → y < length order → y ≢ x → get_or order y 0 ≢ j
  other y l h e = by_cases (dec_lt y x) (λ m. job.is_order.once y x m inside (e ∙ stands)) (λ m. job.is_order.once x y (omega arith) l (sym (e ∙ stands)))

  step : Goes times arrows order M P t j p
  step = record {
    place = x;
    inside = inside;
    stands = sym stands;
    ready = open_ready job mk j opened;
    earliest = λ y l r.
        let m : y < length order = omega arith in
        fm.before.none y l (mk.marks.marked y m (ready_open job mk later refl (get_or order y 0) (job.is_order.each y m) r));
    in_range = pm;
    free = is_free job mk p nobody;
    lowest = λ q a b. is_busy job mk later q a (ff.before.none q b);
  }

  made : ByRule times arrows order M t P'
  made = goes mk.made j p step

  holders : Holders times M t P' U' W'
  holders = record {
    long_until = length-set U p _ ∙ mk.holders.long_until;
    long_who = length-set W p _ ∙ mk.holders.long_who;
    nobody = λ q a. read_set (λ y. y ≡ 0 → get_or U' q 0 ≡ never) W p j q in_who
        (λ _ z. absurd (omega (arith, s.low)))
        (λ h z. read_set (λ y. y ≡ never) U p (t + time_of times j) q in_until (λ e. absurd (h e)) (λ _. mk.holders.nobody q a z));
    holder = λ q a. read_set (λ k. 1 ≤ k → IsOn times P' U' q k) W p j q in_who
        (λ e _. record {
          is_subtask = s;
          on = processor_new ∙ sym e;
          ends = read_set (λ y. end_of times P' j ≡ y) U p (t + time_of times j) q in_until (λ _. end_new) (λ h. absurd (h e));
        })
        (λ h b.
        let o = mk.holders.holder q a b in
        let k = get_or W q 0 in
        let d : k ≢ j = λ e. let z : processor_of P k ≡ processor_of P j = ap (processor_of P) e in absurd (omega (arith, o.on, a.low, opened.unplaced)) in
        record {
          is_subtask = o.is_subtask;
          on = processor_old k o.is_subtask d ∙ o.on;
          ends = end_old k o.is_subtask d ∙ read_set (λ y. end_of times P k ≡ y) U p (t + time_of times j) q in_until (λ e. absurd (h e)) (λ _. o.ends);
        });
    ended = λ k r h.
        let d : k ≢ j = λ e. h (rw e there) in
        omega (arith, end_old k r d, mk.holders.ended k r (λ u. h (unended_keep k r u)));
  }

  lefts : Lefts times arrows 0 P' W' L
  lefts = record {
    long = mk.lefts.long;
    count = λ k r. count_same _ _ (length arrows) (get_or L k 0) (λ a l h. (h.0, keep a l h.1)) (λ a l h. (h.0, back a l h.1)) (mk.lefts.count k r);
  }

  marks : Marks arrows order 0 P' W' R'
  marks = record {
    long = length-set R x false ∙ mk.marks.long;
    opens = λ y l. read_bit (λ z. z ≡ true → Open arrows P' W' 0 (get_or order y 0)) R x false y in_ready
        (λ _ e. absurd (none_true refl e))
        (λ h e. open_keep (get_or order y 0) (job.is_order.each y l) (other y l h) (mk.marks.opens y l e));
    marked = λ y l o. read_bit (λ z. z ≡ true) R x false y in_ready
        (λ e.
        let z : processor_of P' (get_or order y 0) ≡ processor_of P' j = ap (processor_of P') (ap (λ (k : ℕ). get_or order k 0) e ∙ sym stands) in
        absurd (omega (arith, o.unplaced, processor_new, pm.low)))
        (λ h. mk.marks.marked y l (open_back (get_or order y 0) (job.is_order.each y l) (other y l h) o));
  }

  pub started : {due : Option Processor} → due ≡ None → Following times arrows order M t 0 L R' U' W' P' due p (x + 1)
  unfolding FirstOf
  started none = record {
    making = record {
      whole = put_length P j p t ∙ mk.whole;
      early = mk.early;
      begun = λ k r. by_cases (ℕ_discrete k j) (λ e. rw e (omega (arith, start_new))) (λ h. omega (arith, start_old k r h, mk.begun k r));
      made = made;
      holders = holders;
      lefts = lefts;
      marks = marks;
      cursor = record { within = omega arith; ended = λ l. absurd (omega arith) };
      blocked = λ a l h.
          let b = back a l h in
          let d : to_of arrows a ≢ j = λ e. opened.served a l e b in
          processor_old (to_of arrows a) (job.graph.named a l).1 d ∙ mk.blocked a l b;
    };
    unmarked = unmarked_low R in_ready inside fm.before;
    first_due = rw none (record {
      within = omega arith;
      none = λ k l d. read_set (λ y. ¬ (y ≤ t)) U p (t + time_of times j) k in_until
          (λ _. omega (arith, job.graph.positive j s))
          (λ _. omega (arith, later k (record { low = d.one; high = omega arith })))
          d.by;
    });
    free_one = pm.low;
    busy = record {
      within = ff.before.within;
      none = λ k l f. read_set (λ y. y ≢ 0) W p j k in_who
          (λ e. absurd (omega arith))
          (λ _ z. ff.before.none k l (record { one = f.one; nobody = z }))
          f.nobody;
    };
  }
