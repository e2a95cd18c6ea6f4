-- An arrow is counted off: its `to` waits for one subtask fewer, and where it waits for none it can go. Assumes nothing.
use Rattle.std.proofs.Common.{◌≡◌, refl, sym, ap, ◌∙◌, ◌≢◌, List, Bool, true, ℕ, ◌-◌, ◌≤◌, ◌<◌, arith, length, get_or, set, length-set}
use Rattle.std.proofs.Math.Decide.{dec_le, dec_lt, ℕ_discrete}
use Rattle.std.proofs.Math.Logic.{by_cases}
use Rattle.terms.specs.Graphs.{IsSubtask, from_of, to_of}
use Rattle.terms.specs.declared.Entry.{Entry}
use Rattle.theory.specs.First.{NoneBelow}
use Rattle.theory.specs.Counting.{Count}
use Rattle.theory.proofs.Stores.{read_set}
use Rattle.theory.proofs.Counting.{count_same, count_less, count_none, count_some}
use Rattle.theory.proofs.ListExists.{holds}
use Rattle.graph.specs.Chains.{Last}
use Rattle.listplan.specs.Making.{IsJob, Holding, unended, uncounted, Open, Lefts, Marks, Making, IsMarked, CountedOff}
use Rattle.listplan.proofs.Bits.{read_bit}
use Rattle.listplan.proofs.Scans.{marked_low}

module _ {times : List ℕ} {arrows : List (List ℕ)} {order : List ℕ} {M : ℕ} {first next rank : List ℕ} (job : IsJob times arrows order M first next rank)
    {t c : ℕ} {L : List ℕ} {R : List Bool} {U W : List ℕ} {P : List Entry} (mk : Making times arrows order M t c L R U W P) (some : c ≢ 0) where
  -- where the arrow goes to, and the place of that one in the order
  abbrev j : ℕ
  j = to_of arrows (c - 1)

  abbrev x : ℕ
  x = get_or rank j 0

  inside : c - 1 < length arrows
  inside = omega (arith, mk.cursor.within)

  pub to_subtask : IsSubtask times j
  to_subtask = (job.graph.named (c - 1) inside).1

  here : Holding arrows P W c (c - 1)
  here = uncounted (omega arith) refl

  stood : (y : ℕ) × (y < length order) × (get_or order y 0 ≡ j)
  stood = holds times order job.is_order j to_subtask

  ranked : (y : ℕ) → y < length order → get_or order y 0 ≡ j → x ≡ y
  ranked y l e = rw e at (job.ranks.stands y l)

  stands : get_or order x 0 ≡ j
  stands = ap (λ (y : ℕ). get_or order y 0) (ranked stood.0 stood.1 stood.2) ∙ stood.2

  rank_inside : x < length order
  rank_inside = omega (arith, ranked stood.0 stood.1 stood.2, stood.1)

  pub rank_small : x < 256
  rank_small = omega (arith, rank_inside, job.is_order.whole, job.graph.count.high)

  pub left_some : 1 ≤ get_or L j 0
  left_some = by_cases (dec_le 1 (get_or L j 0)) (λ l. l)
      (λ l. absurd (count_none _ (length arrows) _ (c - 1) (mk.lefts.count j to_subtask) (omega arith) inside (refl, here)))

  -- c' is the position of the arrow that comes next
  module _ {c' : ℕ} (at : c' ≡ get_or next (c - 1) 0) where
    last : Last (from_of arrows) (from_of arrows (c - 1)) (c - 1) c'
    last = rw at (job.chains.step (c - 1) inside)

    gone : ¬ Holding arrows P W c' (c - 1)
    gone (unended u) = mk.cursor.ended (omega arith) u
    gone (uncounted l e) = omega (arith, last.within)

    keep : (a : ℕ) → a ≢ c - 1 → Holding arrows P W c a → Holding arrows P W c' a
    keep a h (unended u) = unended u
    keep a h (uncounted l e) =
        let m : a < c' = by_cases (dec_lt a c') (λ m. m) (λ m. absurd (last.gap a (omega arith) (omega arith) e)) in
        uncounted m (e ∙ sym (last.here (omega arith)))

    back : (a : ℕ) → Holding arrows P W c' a → Holding arrows P W c a
    back a (unended u) = unended u
    back a (uncounted l e) = uncounted (omega (arith, last.within)) (e ∙ last.here (omega arith))

    fewer : (1 ≤ get_or L j 0) × Count (λ a. (to_of arrows a ≡ j) × Holding arrows P W c' a) (length arrows) (get_or L j 0 - 1)
    fewer = count_less _ _ (length arrows) (get_or L j 0) (c - 1) inside (refl, here) (λ h. gone h.1)
        (λ a l d h. (h.0, keep a d h.1)) (λ a l d h. (h.0, back a h.1)) (mk.lefts.count j to_subtask)

    open_keep : (k : ℕ) → Open arrows P W c k → Open arrows P W c' k
    open_keep k o = record { unplaced = o.unplaced; served = λ a l e h. o.served a l e (back a h) }

    open_back : (k : ℕ) → k ≢ j → Open arrows P W c' k → Open arrows P W c k
    open_back k d o = record {
      unplaced = o.unplaced;
      served = λ a l e h. o.served a l e (keep a (λ z. d (sym e ∙ ap (λ (y : ℕ). to_of arrows y) z)) h);
    }

    open_now : get_or L j 0 ≡ 1 → Open arrows P W c' j
    open_now z = record {
      unplaced = mk.blocked (c - 1) inside here;
      served = λ a l e h. count_none _ (length arrows) (get_or L j 0 - 1) a fewer.1 (omega arith) l (e, h);
    }

    shut_still : get_or L j 0 ≢ 1 → ¬ Open arrows P W c' j
    shut_still z o = let r = count_some _ (length arrows) (get_or L j 0 - 1) fewer.1 (omega (arith, fewer.0)) in o.served r.0 r.1 r.2.0 r.2.1

    lefts : {L' : List ℕ} → L' ≡ set L j (get_or L j 0 - 1) → Lefts times arrows c' P W L'
    lefts e = rw e (record {
      long = length-set L j _ ∙ mk.lefts.long;
      count = λ k r. read_set (λ y. Count (λ a. (to_of arrows a ≡ k) × Holding arrows P W c' a) (length arrows) y) L j _ k
          (omega (arith, mk.lefts.long, to_subtask.high, job.graph.count.high))
          (λ q. rw q fewer.1)
          (λ q. count_same _ _ (length arrows) (get_or L k 0)
          (λ a l h. (h.0, keep a (λ z. q (sym h.0 ∙ ap (λ (y : ℕ). to_of arrows y) z)) h.1))
          (λ a l h. (h.0, back a h.1)) (mk.lefts.count k r));
    })

    -- the places of the order, by whether the arrow was the last one
    in_ready : x < length R
    in_ready = omega (arith, mk.marks.long, rank_small)

    marks_last : get_or L j 0 ≡ 1 → Marks arrows order c' P W (set R x true)
    marks_last z = record {
      long = length-set R _ true ∙ mk.marks.long;
      opens = λ y l. read_bit (λ k. k ≡ true → Open arrows P W c' (get_or order y 0)) R x true y in_ready
          (λ e _. let f : get_or order y 0 ≡ j = ap (λ (k : ℕ). get_or order k 0) e ∙ stands in rw f (open_now z))
          (λ h e. open_keep (get_or order y 0) (mk.marks.opens y l e));
      marked = λ y l o. read_bit (λ k. k ≡ true) R x true y in_ready (λ _. refl)
          (λ h. mk.marks.marked y l (open_back (get_or order y 0) (λ e. h (sym (ranked y l e))) o));
    }

    marks_more : get_or L j 0 ≢ 1 → Marks arrows order c' P W R
    marks_more z = record {
      long = mk.marks.long;
      opens = λ y l e. open_keep (get_or order y 0) (mk.marks.opens y l e);
      marked = λ y l o. by_cases (ℕ_discrete (get_or order y 0) j)
          (λ e. absurd (shut_still z (rw e at o)))
          (λ d. mk.marks.marked y l (open_back (get_or order y 0) d o));
    }

    module _ {L' : List ℕ} {R' : List Bool} {low low' : ℕ} (off : CountedOff arrows rank L R L' R' (c - 1) low low')
        (u : NoneBelow (IsMarked R) (length order) low) where
      now_marked : Marks arrows order c' P W R' × NoneBelow (IsMarked R') (length order) low'
      now_marked = by_cases (ℕ_discrete (get_or L j 0) 1)
          (λ z. let r = off.last (omega arith) in rw (r.0, r.1) (marks_last z, marked_low R in_ready u))
          (λ z.
          let some_left : get_or L j 0 - 1 ≢ 0 = omega (arith, left_some) in
          let r = off.more some_left in
          rw (r.0, r.1) (marks_more z, u))

      pub counted : Making times arrows order M t c' L' R' U W P × NoneBelow (IsMarked R') (length order) low'
      counted = (
        record {
          whole = mk.whole;
          early = mk.early;
          begun = mk.begun;
          made = mk.made;
          holders = mk.holders;
          lefts = lefts off.fewer;
          marks = now_marked.0;
          cursor = record { within = omega (arith, last.within, mk.cursor.within); ended = λ l u. mk.cursor.ended (omega arith) (rw (last.here l) at u) };
          blocked = λ a l h. mk.blocked a l (back a h);
        },
        now_marked.1,
      )
