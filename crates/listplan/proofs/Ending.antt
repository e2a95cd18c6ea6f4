-- A subtask ends: its processor is free, and its arrows are to be counted off. Assumes nothing.
use Rattle.std.proofs.Common.{◌≡◌, refl, sym, ap, ◌∙◌, ◌≢◌, List, Bool, Option, ℕ, ◌+◌, ◌≤◌, ◌<◌, arith, length, get_or, set, length-set}
use Rattle.std.proofs.Math.Decide.{dec_le, dec_lt, ℕ_discrete}
use Rattle.std.proofs.Math.Logic.{by_cases}
use Rattle.terms.specs.Graphs.{Among, IsSubtask, from_of}
use Rattle.terms.specs.Plans.{processor_of, end_of}
use Rattle.terms.specs.declared.Entry.{Entry}
use Rattle.terms.specs.declared.Processor.{Processor}
use Rattle.theory.specs.First.{NoneBelow, FirstBelow}
use Rattle.theory.proofs.Stores.{read_set}
use Rattle.theory.proofs.Counting.{count_same}
use Rattle.forms.specs.Forms.{never}
use Rattle.graph.specs.Chains.{Last}
use Rattle.listplan.specs.Making.{IsJob, Unended, waits, runs, Holding, unended, uncounted, IsOn, Making, IsMarked, IsDue, FirstOf}
use Rattle.listplan.proofs.Following.{Following}
use Rattle.listplan.proofs.Scans.{none_free}

-- the one on processor p has its end by t
module _ {times : List ℕ} {arrows : List (List ℕ)} {order : List ℕ} {M : ℕ} {first next rank : List ℕ} (job : IsJob times arrows order M first next rank)
    {t : ℕ} {L : List ℕ} {R : List Bool} {U W : List ℕ} {P : List Entry} (mk : Making times arrows order M t 0 L R U W P) {p : ℕ} (pm : Among 1 M p) (due : get_or U p 0 ≤ t) where
  pub somebody : 1 ≤ get_or W p 0
  somebody = by_cases (dec_le 1 (get_or W p 0)) (λ l. l) (λ l. absurd (omega (arith, mk.holders.nobody p pm (omega arith), mk.early, job.work)))

  holder : IsOn times P U p (get_or W p 0)
  holder = mk.holders.holder p pm somebody

  pub who_small : get_or W p 0 < 257
  who_small = omega (arith, holder.is_subtask.high, job.graph.count.high)

  in_until : p < length U
  in_until = omega (arith, mk.holders.long_until, pm.high, job.within.high)

  pub in_who : p < length W
  in_who = omega (arith, mk.holders.long_who, pm.high, job.within.high)

  abbrev U' : List ℕ
  U' = set U p never

  abbrev W' : List ℕ
  W' = set W p 0

  -- only the one that was there has ended
  unended_back : (k : ℕ) → IsSubtask times k → Unended P W' k → Unended P W k
  unended_back k r (waits z) = waits z
  unended_back k r (runs z) =
      runs (read_set (λ y. y ≡ k → get_or W (processor_of P k) 0 ≡ k) W p 0 (processor_of P k) in_who (λ _ e. absurd (omega (arith, r.low))) (λ _ e. e) z)

  unended_keep : (k : ℕ) → k ≢ get_or W p 0 → Unended P W k → Unended P W' k
  unended_keep k h (waits z) = waits z
  unended_keep k h (runs z) = runs (read_set (λ y. y ≡ k) W p 0 (processor_of P k) in_who (λ e. absurd (h (sym z ∙ ap (λ (y : ℕ). get_or W y 0) e))) (λ _. z))

  there : Unended P W (get_or W p 0)
  there = runs (ap (λ (y : ℕ). get_or W y 0) holder.on)

  gone : ¬ Unended P W' (get_or W p 0)
  gone (waits z) = omega (arith, holder.on, pm.low)
  gone (runs z) = read_set (λ y. y ≢ get_or W p 0) W p 0 (processor_of P (get_or W p 0)) in_who (λ _ e. omega (arith, somebody)) (λ h. absurd (h holder.on)) z

  -- the next one with an end by t is further up
  pub due_after : FirstBelow (IsDue U t) (M + 1) p → NoneBelow (IsDue U' t) (M + 1) (p + 1)
  due_after d = record {
    within = omega (arith, pm.high);
    none = λ k l e. read_set (λ y. ¬ (y ≤ t)) U p never k in_until
        (λ _. omega (arith, mk.early, job.work))
        (λ h z. d.before.none k (omega arith) (record { one = e.one; by = z }))
        e.by;
  }

  -- c is the position of its last arrow
  module _ {c : ℕ} (at : c ≡ get_or first (get_or W p 0) 0) where
    last : Last (from_of arrows) (get_or W p 0) (length arrows) c
    last = rw at (job.chains.start (get_or W p 0) who_small)

    keep : (a : ℕ) → a < length arrows → Holding arrows P W 0 a → Holding arrows P W' c a
    keep a l (unended u) = by_cases (ℕ_discrete (from_of arrows a) (get_or W p 0))
        (λ e.
        let m : a < c = by_cases (dec_lt a c) (λ m. m) (λ m. absurd (last.gap a (omega arith) l e)) in
        uncounted m (e ∙ sym (last.here (omega arith))))
        (λ h. unended (unended_keep (from_of arrows a) h u))
    keep a l (uncounted m e) = absurd (omega arith)

    back : (a : ℕ) → a < length arrows → Holding arrows P W' c a → Holding arrows P W 0 a
    back a l (unended u) = unended (unended_back (from_of arrows a) (job.graph.named a l).0 u)
    back a l (uncounted m e) = unended (rw (e ∙ last.here (omega arith)) there)

    making : Making times arrows order M t c L R U' W' P
    making = record {
      whole = mk.whole;
      early = mk.early;
      begun = mk.begun;
      made = mk.made;
      holders = record {
        long_until = length-set U p _ ∙ mk.holders.long_until;
        long_who = length-set W p _ ∙ mk.holders.long_who;
        nobody = λ k a. read_set (λ y. y ≡ 0 → get_or U' k 0 ≡ never) W p 0 k in_who
            (λ e _. read_set (λ y. y ≡ never) U p never k in_until (λ _. refl) (λ h. absurd (h e)))
            (λ h z. read_set (λ y. y ≡ never) U p never k in_until (λ _. refl) (λ _. mk.holders.nobody k a z));
        holder = λ k a. read_set (λ y. 1 ≤ y → IsOn times P U' k y) W p 0 k in_who
            (λ _ b. absurd (omega arith))
            (λ h b.
            let r = mk.holders.holder k a b in
            record {
              is_subtask = r.is_subtask;
              on = r.on;
              ends = read_set (λ y. end_of times P (get_or W k 0) ≡ y) U p never k in_until (λ e. absurd (h e)) (λ _. r.ends);
            });
        ended = λ k r h. by_cases (ℕ_discrete k (get_or W p 0))
            (λ e. rw e (omega (arith, holder.ends)))
            (λ d. mk.holders.ended k r (λ u. h (unended_keep k d u)));
      };
      lefts = record {
        long = mk.lefts.long;
        count = λ k r. count_same _ _ (length arrows) (get_or L k 0) (λ a l h. (h.0, keep a l h.1)) (λ a l h. (h.0, back a l h.1)) (mk.lefts.count k r);
      };
      marks = record {
        long = mk.marks.long;
        opens = λ y l e. let o = mk.marks.opens y l e in record { unplaced = o.unplaced; served = λ a m f h. o.served a m f (back a m h) };
        marked = λ y l o. mk.marks.marked y l (record { unplaced = o.unplaced; served = λ a m f h. o.served a m f (keep a m h) });
      };
      cursor = record { within = last.within; ended = λ l u. gone (rw (last.here l) at u) };
      blocked = λ a l h. mk.blocked a l (back a l h);
    }

    pub ended : {due' : Option Processor} {low : ℕ} → NoneBelow (IsMarked R) (length order) low → FirstOf M (IsDue U' t) due'
        → Following times arrows order M t c L R U' W' P due' 1 low
    ended u d = record { making = making; unmarked = u; first_due = d; free_one = omega arith; busy = none_free (omega arith) }
