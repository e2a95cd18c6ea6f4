-- Shorter times, fewer arrows, more processors: the graph stays accepted, C and P do not grow, and "fits" stays. Assumes nothing.
use Rattle.std.proofs.Common.{◌≡◌, refl, sym, ap, ◌∙◌, ◌≢◌, List, ℕ, suc, ◌≤◌, ◌<◌, arith, length}
use Rattle.std.proofs.Math.Logic.{by_cases}
use Rattle.std.proofs.Math.Nat.{suc_inj}
use Rattle.std.proofs.Math.Decide.{dec_le, dec_lt}
use Rattle.terms.specs.Graphs.{Among, IsSubtask, time_of, from_of, to_of, Precedes, LeadsTo, step, more}
use Rattle.terms.specs.Paths.{total_work, PathTo, alone, along, weight, IsLongest}
use Rattle.terms.specs.Verdicts.{bound, sure_end}
use Rattle.terms.specs.Alterations.{Altered}
use Rattle.theory.specs.Sound.{SoundGraph}
use Rattle.theory.proofs.Accepted.{from_subtask, to_subtask}
use Rattle.terms.specs.Sums.{sum}
use Rattle.theory.proofs.Sums.{sum_le}
use Rattle.theory.proofs.Pigeonhole.{repeats}
use Rattle.theory.proofs.Work.{total_sum}
use Rattle.theory.proofs.Paths.{longest_total}
use Rattle.theory.proofs.Bounds.{sure_end_altered}

module _ {times : List ℕ} {arrows : List (List ℕ)} {M : ℕ} {times' : List ℕ} {arrows' : List (List ℕ)} {M' : ℕ}
    (g : SoundGraph times arrows) (altered : Altered times arrows M times' arrows' M') where
  new : {j : ℕ} → IsSubtask times j → IsSubtask times' j
  new s = record { low = s.low; high = rw altered.same s.high }

  old : {j : ℕ} → IsSubtask times' j → IsSubtask times j
  old s = record { low = s.low; high = rw altered.same at s.high }

  -- where the arrow at a place of the new row stood in the old one
  was : (a : ℕ) → a < length arrows' → Precedes arrows (from_of arrows' a) (to_of arrows' a)
  was a l = altered.kept (from_of arrows' a) (to_of arrows' a) (record { place = a; inside = l; begins = refl; arrives = refl })

  was_place : (a : ℕ) → Dec (a < length arrows') → ℕ
  was_place a (yes l) = suc (was a l).place
  was_place a (no h) = 0

  was_inside : (a : ℕ) (d : Dec (a < length arrows')) → a < length arrows' → Among 1 (length arrows) (was_place a d)
  unfolding was_place
  was_inside a (yes l) m = record { low = omega arith; high = (was a l).inside }
  was_inside a (no h) m = absurd (h m)

  was_once : (a b : ℕ) (d : Dec (a < length arrows')) (e : Dec (b < length arrows')) → a < b → b < length arrows' → was_place a d ≢ was_place b e
  unfolding was_place
  was_once a b (no h) e l m q = h (omega arith)
  was_once a b (yes k) (no h) l m q = h m
  was_once a b (yes k) (yes n) l m q =
      let same : (was a k).place ≡ (was b n).place = suc_inj q in
      altered.once b m (record {
        earlier = a;
        before = l;
        same_from = sym (was a k).begins ∙ ap (from_of arrows) same ∙ (was b n).begins;
        same_to = sym (was a k).arrives ∙ ap (to_of arrows) same ∙ (was b n).arrives;
      })

  -- two arrows of the new row never stood in one place, so it is no longer than the old one
  pub fewer_arrows : length arrows' ≤ length arrows
  fewer_arrows = by_cases (dec_le (length arrows') (length arrows)) (λ l. l)
      (λ h.
      let q = repeats (length arrows) (λ a. was_place a (dec_lt a (length arrows'))) (λ a l. was_inside a (dec_lt a (length arrows')) (omega arith)) in
      absurd (was_once q.0 q.1 (dec_lt q.0 (length arrows')) (dec_lt q.1 (length arrows')) q.2 (omega (arith, q.3)) q.4))

  leads_was : {i j : ℕ} → LeadsTo arrows' i j → LeadsTo arrows i j
  leads_was (step w) = step (altered.kept _ _ w)
  leads_was (more l w) = more (leads_was l) (altered.kept _ _ w)

  pub altered_sound : SoundGraph times' arrows'
  altered_sound = record {
    count = rw altered.same g.count;
    positive = λ j s. (altered.shorter j (old s)).low;
    few = omega (arith, fewer_arrows, g.few);
    named = λ a l. (new (from_subtask g (was a l)), new (to_subtask g (was a l)));
    apart = λ a l e. g.acyclic (to_of arrows' a) (step (rw e at (was a l)));
    once = λ a b l m e. altered.once b m (record { earlier = a; before = l; same_from = e.0; same_to = e.1 });
    acyclic = λ j l. g.acyclic j (leads_was l);
  }

  -- a path stays a path when the arrows come back, and weighs no less
  path_was : {j : ℕ} (p : PathTo times' arrows' j) → (q : PathTo times arrows j) × (weight p ≤ weight q)
  unfolding weight
  path_was (alone j s) = (alone j (old s), (altered.shorter j (old s)).high)
  path_was (along p j w) =
      let r = path_was p in
      (along r.0 j (altered.kept _ j w), omega (arith, r.1, (altered.shorter j (to_subtask g (altered.kept _ j w))).high))

  longest_no_more : (P P' : ℕ) → IsLongest times arrows P → IsLongest times' arrows' P' → P' ≤ P
  longest_no_more P P' l l' = let r = path_was l'.reached.1 in omega (arith, r.1, l'.reached.2, l.most _ r.0)

  total_no_more : total_work times' ≤ total_work times
  total_no_more =
      let x : sum (length times) (λ i. time_of times' (suc i)) ≤ sum (length times) (λ i. time_of times (suc i)) =
      sum_le (length times) _ _ (λ i h. (altered.shorter (suc i) (record { low = omega arith; high = h })).high) in
      let y : total_work times' ≡ sum (length times) (λ i. time_of times' (suc i)) = rw (← altered.same) (total_sum times') in
      omega (arith, total_sum times)

  -- the sure end gets no later
  pub end_no_later : (P P' : ℕ) → 1 ≤ M → IsLongest times arrows P → IsLongest times' arrows' P'
      → sure_end (bound (total_work times') P' M') M' ≤ sure_end (bound (total_work times) P M) M
  end_no_later P P' one l l' =
      sure_end_altered (total_work times) P (total_work times') P' M M' one (longest_total P g l) total_no_more (longest_no_more P P' l l') altered.wider.low
