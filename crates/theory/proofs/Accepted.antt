-- Acceptance by the table is the same as the facts of SoundGraph, SoundPlan and BusyPlan, and what else each call asks. Assumes nothing.
use mathlib.Core.Logic.Dec
use Rattle.std.proofs.Common.{inl, inr, ⊎_elim, List, ℕ, ◌≤◌, ◌<◌, arith, length}
use Rattle.std.proofs.Math.Logic.{by_cases}
use Rattle.std.proofs.Math.Decide.{dec_le, ℕ_discrete}
use Rattle.terms.specs.Rows.{Accepted, RefusedBy}
use Rattle.terms.specs.Graphs.{Among, IsSubtask, time_of, from_of, to_of, Precedes}
use Rattle.terms.specs.Plans.{processor_of, start_of, end_of}
use Rattle.terms.specs.ListRule.{IsOrder}
use Rattle.terms.specs.Refusals.{count_rows, time_rows, subtask_rows, size_rows, arrow_rows, graph_rows, time_and_arrow_rows, processor_rows, on_rows}
use Rattle.terms.specs.Refusals.{deadline_rows, order_rows, plan_rows, verdict_rows, list_rows, check_rows, named_rows, arrange_rows}
use Rattle.terms.specs.declared.Entry.{Entry}
use Rattle.terms.specs.declared.Refusal.{Refusal}
use Rattle.terms.proofs.Decide.{dec_among, dec_order, undenied}
use Rattle.theory.specs.Sound.{SoundGraph}
use Rattle.theory.proofs.SoundPlans.{BusyPlan}
use Rattle.theory.proofs.Answers.{accepted_join, accepted_both, refused_rest, begin, past, past_all, done, holds_of, none_holds}

pub sound_graph : (times : List ℕ) (arrows : List (List ℕ)) → Accepted (graph_rows times arrows) → SoundGraph times arrows
unfolding graph_rows subtask_rows count_rows time_rows size_rows arrow_rows holds_of
sound_graph times arrows a =
    let row : (k : ℕ) → ¬ holds_of k (graph_rows times arrows) = λ k. none_holds k (graph_rows times arrows) a in
    record {
      count = undenied (dec_among 1 256 (length times)) (row 1);
      positive =
          λ j s. by_cases (dec_le 1 (time_of times j)) (λ l. omega arith) (λ l. absurd (row 2 (record { subtask = j; is_subtask = s; is_so = omega arith })));
      few = by_cases (dec_le (length arrows) 2048) (λ l. omega arith) (λ l. absurd (row 3 (omega arith)));
      named = λ p l. undenied (Dec.and (dec_among 1 (length times) (from_of arrows p)) (dec_among 1 (length times) (to_of arrows p)))
          (λ h. row 4 (record { place = p; inside = l; is_so = h }));
      apart = λ p l e. row 5 (record { place = p; inside = l; is_so = e });
      once = λ p q l m e. row 6 (record { place = q; inside = m; is_so = record { earlier = p; before = l; same_from = e.0; same_to = e.1 } });
      acyclic = λ j l. row 7 (j, l);
    }

pub accepted_graph : (times : List ℕ) (arrows : List (List ℕ)) → SoundGraph times arrows → Accepted (graph_rows times arrows)
unfolding graph_rows subtask_rows count_rows time_rows size_rows arrow_rows
accepted_graph times arrows g =
    let r1 = past (begin (graph_rows times arrows)) (λ h. h g.count) in
    let r2 = past r1 (λ h. omega (arith, h.is_so, g.positive h.subtask h.is_subtask)) in
    let r3 = past r2 (λ h. omega (arith, g.few)) in
    let r4 = past r3 (λ h. h.is_so (g.named h.place h.inside)) in
    let r5 = past r4 (λ h. g.apart h.place h.inside h.is_so) in
    let r6 = past r5 (λ h. g.once h.is_so.earlier h.place h.is_so.before h.inside (h.is_so.same_from, h.is_so.same_to)) in
    let r7 = past r6 (λ h. g.acyclic h.0 h.1) in
    done r7

-- where 1 does not hold, 1 to 7 refuse as 2 to 7 do, which are the reader's, and accept as they do
pub read_refused : (times : List ℕ) (arrows : List (List ℕ)) (r : Refusal) → Among 1 256 (length times) → RefusedBy (graph_rows times arrows) r
    → RefusedBy (time_and_arrow_rows times arrows) r
unfolding graph_rows subtask_rows count_rows time_rows time_and_arrow_rows Accepted
read_refused times arrows r count x = refused_rest (count_rows times) (time_and_arrow_rows times arrows) r ((λ h. h count), tt) x

pub read_accepted : (times : List ℕ) (arrows : List (List ℕ)) → Accepted (graph_rows times arrows) → Accepted (time_and_arrow_rows times arrows)
unfolding graph_rows subtask_rows count_rows time_rows time_and_arrow_rows
read_accepted times arrows x = (accepted_both (count_rows times) (time_and_arrow_rows times arrows) x).1

-- the two ends of an arrow are subtasks
pub from_subtask : {times : List ℕ} {arrows : List (List ℕ)} {i j : ℕ} → SoundGraph times arrows → Precedes arrows i j → IsSubtask times i
from_subtask g w = rw w.begins at (g.named w.place w.inside).0

pub to_subtask : {times : List ℕ} {arrows : List (List ℕ)} {i j : ℕ} → SoundGraph times arrows → Precedes arrows i j → IsSubtask times j
to_subtask g w = rw w.arrives at (g.named w.place w.inside).1

-- ---- arranged over lent rows of so many begins and numbers: 1 to 4, 11

-- what its acceptance hands out
pub record Arrangeable (times : List ℕ) (arrows : List (List ℕ)) (begins numbers : ℕ) : Type 0 where
  pub count : Among 1 256 (length times)
  pub few : length arrows ≤ 2048
  pub named : (a : ℕ) → a < length arrows → IsSubtask times (from_of arrows a) × IsSubtask times (to_of arrows a)
  pub for_begins : length times < begins
  pub for_numbers : length arrows ≤ numbers

module _ (times : List ℕ) (arrows : List (List ℕ)) (begins numbers : ℕ) where
  pub sound_arrange : Accepted (arrange_rows times arrows begins numbers) → Arrangeable times arrows begins numbers
  unfolding arrange_rows named_rows subtask_rows count_rows time_rows size_rows holds_of
  sound_arrange a =
      let row : (k : ℕ) → ¬ holds_of k (arrange_rows times arrows begins numbers) = λ k. none_holds k (arrange_rows times arrows begins numbers) a in
      record {
        count = undenied (dec_among 1 256 (length times)) (row 1);
        few = by_cases (dec_le (length arrows) 2048) (λ l. l) (λ l. absurd (row 3 (omega (arith, l))));
        named = λ p l. undenied (Dec.and (dec_among 1 (length times) (from_of arrows p)) (dec_among 1 (length times) (to_of arrows p)))
            (λ h. row 4 (record { place = p; inside = l; is_so = h }));
        for_begins = by_cases (dec_le begins (length times)) (λ l. absurd (row 11 (inl l))) (λ l. omega (arith, l));
        for_numbers = by_cases (dec_le (length arrows) numbers) (λ l. l) (λ l. absurd (row 11 (inr (omega (arith, l)))));
      }

  -- where there is room, every accepted graph can be arranged
  pub accepted_arrange : SoundGraph times arrows → length times < begins → length arrows ≤ numbers → Accepted (arrange_rows times arrows begins numbers)
  unfolding arrange_rows named_rows subtask_rows count_rows time_rows size_rows
  accepted_arrange g l m =
      let r1 = past (begin (arrange_rows times arrows begins numbers)) (λ h. h g.count) in
      let r2 = past r1 (λ h. omega (arith, h.is_so, g.positive h.subtask h.is_subtask)) in
      let r3 = past r2 (λ h. omega (arith, g.few)) in
      let r4 = past r3 (λ h. h.is_so (g.named h.place h.inside)) in
      done (past r4 (λ h. ⊎_elim (λ s. omega (arith, s, l)) (λ s. omega (arith, s, m)) h))

-- ---- on M processors: 1 to 8

module _ (times : List ℕ) (arrows : List (List ℕ)) (M : ℕ) where
  pub sound_on : Accepted (on_rows times arrows M) → SoundGraph times arrows × Among 1 16 M
  unfolding on_rows processor_rows Accepted
  sound_on a =
      let both = accepted_both (graph_rows times arrows) (processor_rows M) a in
      (sound_graph times arrows both.0, undenied (dec_among 1 16 M) both.1.0)

  pub accepted_on : SoundGraph times arrows → Among 1 16 M → Accepted (on_rows times arrows M)
  unfolding on_rows processor_rows Accepted
  accepted_on g m = accepted_join (graph_rows times arrows) (processor_rows M) (accepted_graph times arrows g) ((λ h. h m), tt)

  -- ---- and what each call asks beside them

  -- an accepted plan, of a graph that is accepted then
  pub busy_plan : (plan : List Entry) → Accepted (check_rows times arrows M plan) → SoundGraph times arrows × BusyPlan times arrows M plan
  unfolding check_rows plan_rows holds_of
  busy_plan plan a =
      let both = accepted_both (on_rows times arrows M) (plan_rows times arrows M plan) a in
      let row : (k : ℕ) → ¬ holds_of k (plan_rows times arrows M plan) = λ k. none_holds k (plan_rows times arrows M plan) both.1 in
      let on = sound_on both.0 in (
        on.0,
        record {
          sound = record {
            processors = on.1;
            whole = undenied (ℕ_discrete (length plan) (length times)) (row 12);
            placed = λ j s. undenied (dec_among 1 M (processor_of plan j)) (λ h. row 13 (record { subtask = j; is_subtask = s; is_so = h }));
            starts =
                λ j s. by_cases (dec_le (start_of plan j) 16776960) (λ l. omega arith)
                (λ l. absurd (row 14 (record { subtask = j; is_subtask = s; is_so = omega arith })));
            ordered = λ i j w. by_cases (dec_le (end_of times plan i) (start_of plan j)) (λ l. omega arith)
                (λ l. absurd (row 15 (record { subtask = j; is_subtask = to_subtask on.0 w; is_so = record { predecessor = i; precedes = w; early = omega arith } })));
            apart = λ i j t s q d e x y. row 16 (record {
              subtask = i;
              is_subtask = s;
              is_so = record { subtask = j; is_subtask = q; is_so = record { two = d; same_processor = e; instant = t; runs = x; runs_too = y } };
            });
          };
          busy = λ t h. row 17 (t, h);
        },
      )

  pub accepted_plan : (plan : List Entry) → SoundGraph times arrows → BusyPlan times arrows M plan → Accepted (check_rows times arrows M plan)
  unfolding check_rows plan_rows
  accepted_plan plan g b =
      let r8 = past_all (on_rows times arrows M) (begin (check_rows times arrows M plan)) (accepted_on g b.sound.processors) in
      let r12 = past r8 (λ h. h b.sound.whole) in
      let r13 = past r12 (λ h. h.is_so (b.sound.placed h.subtask h.is_subtask)) in
      let r14 = past r13 (λ h. omega (arith, h.is_so, b.sound.starts h.subtask h.is_subtask)) in
      let r15 = past r14 (λ h. omega (arith, h.is_so.early, b.sound.ordered h.is_so.predecessor h.subtask h.is_so.precedes)) in
      let r16 = past r15 (λ h. b.sound.apart h.subtask h.is_so.subtask h.is_so.is_so.instant h.is_subtask h.is_so.is_subtask
      h.is_so.is_so.two h.is_so.is_so.same_processor h.is_so.is_so.runs h.is_so.is_so.runs_too) in
      let r17 = past r16 (λ h. b.busy h.0 h.1) in
      done r17

  -- what the list plan accepts: 1 to 8, 10, 11
  pub sound_list : (order : List ℕ) (room : ℕ) → Accepted (list_rows times arrows M order room)
      → SoundGraph times arrows × Among 1 16 M × IsOrder times order × (length times ≤ room)
  unfolding list_rows order_rows holds_of
  sound_list order room a =
      let both = accepted_both (on_rows times arrows M) (order_rows times order room) a in
      let row : (k : ℕ) → ¬ holds_of k (order_rows times order room) = λ k. none_holds k (order_rows times order room) both.1 in
      let on = sound_on both.0 in
      (on.0, on.1, undenied (dec_order times order) (row 10), by_cases (dec_le (length times) room) (λ l. l) (λ l. absurd (row 11 (omega arith))))

  pub accepted_list : (order : List ℕ) (room : ℕ) → SoundGraph times arrows → Among 1 16 M → IsOrder times order → length times ≤ room
      → Accepted (list_rows times arrows M order room)
  unfolding list_rows order_rows
  accepted_list order room g m o l =
      let r8 = past_all (on_rows times arrows M) (begin (list_rows times arrows M order room)) (accepted_on g m) in
      done (past (past r8 (λ h. h o)) (λ h. omega arith))

  -- what the verdict accepts: 1 to 9
  pub sound_verdict : (D : ℕ) → Accepted (verdict_rows times arrows M D) → SoundGraph times arrows × Among 1 16 M × Among 1 1000000 D
  unfolding verdict_rows deadline_rows Accepted
  sound_verdict D a =
      let both = accepted_both (on_rows times arrows M) (deadline_rows D) a in
      let on = sound_on both.0 in
      (on.0, on.1, undenied (dec_among 1 1000000 D) both.1.0)

  pub accepted_verdict : (D : ℕ) → SoundGraph times arrows → Among 1 16 M → Among 1 1000000 D → Accepted (verdict_rows times arrows M D)
  unfolding verdict_rows deadline_rows Accepted
  accepted_verdict D g m d = accepted_join (on_rows times arrows M) (deadline_rows D) (accepted_on g m) ((λ h. h d), tt)
