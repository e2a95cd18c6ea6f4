-- The dummies of docs/PLANNER.md: at a small input each statement rules the dummy's reply out. Assumes nothing.
use Rattle.std.proofs.Common.{◌≡◌, refl, ap, ◌∙◌, inl, List, [], ◌∷◌, ◌++◌, ℕ, ◌≤◌, ◌<◌, arith, length, get_or, take, drop, replicate}
use Rattle.std.proofs.Math.Logic.{by_cases}
use Rattle.std.proofs.lemmas.List.{append_cancel_left}
use Rattle.std.proofs.Math.Decide.{dec_le}
use Rattle.terms.specs.Rows.{Accepted, place_of}
use Rattle.terms.specs.Graphs.{IsSubtask, time_of}
use Rattle.terms.specs.Verdicts.{sure_end, IsVerdict}
use Rattle.terms.specs.Plans.{at, not_placed, processor_of, start_of, end_of, Placed, RunsAt}
use Rattle.terms.specs.ListRule.{ByRule, IsListPlan}
use Rattle.terms.specs.Refusals.{time_and_arrow_rows, graph_rows, verdict_rows, list_rows, check_rows, write_rows}
use Rattle.terms.specs.Replies.{IsCheck, IsMeasure, IsTotalWork, IsLongestPath, IsOutcome, IsListed, IsChecked, IsWritten}
use Rattle.terms.specs.Readings.{graph, is_size, is_first, is_shape, is_task, is_entry_dummy, is_exit_dummy, may_follow, arrows_into, with_task, trailer}
use Rattle.terms.specs.Readings.{exit_line, task_lines, entry_line, read_lines, read_text, IsReplyTo, IsRead}
use Rattle.terms.specs.Arrangements.{has_arrow, passing, lasts_of}
use Rattle.terms.specs.Writings.{decimal_in, decimal, further, line, text_of, with_count, subtask_lines, exit_numbers, stg_lines, stg_text}
use Rattle.terms.specs.Texts.{all_pass, lines, fields, value_from, proper, numbers}
use Rattle.terms.specs.declared.Entry.{Entry}
use Rattle.terms.specs.declared.Refusal.{Refusal}
use Rattle.terms.specs.declared.Refusal.TheVariants.{TimeZero}
use Rattle.terms.specs.declared.Figures.{Figures}
use Rattle.terms.specs.declared.Verdict.{Verdict}
use Rattle.terms.specs.declared.Verdict.TheVariants.{Fits, Late}
use Rattle.theory.proofs.Accepted.{read_accepted, busy_plan, accepted_plan, accepted_verdict}
use Rattle.theory.proofs.Paths.{one_longest}
use Rattle.theory.proofs.ListRule.{by_rule, still_early, ends_early}
use Rattle.terms.proofs.PlacedRefusals.{placed_refusals}
use Rattle.theory.proofs.Answers.{one_refusal, not_both, accepted_join}
use Rattle.theory.proofs.TwoSubtasks.{none_precedes, both, first, second, pair_sound, pair_longest, pair_total, in_turn, pair_order, one_processor}
use Rattle.theory.proofs.TwoSubtasks.{pair_figures, pair_listed, short, short_sound, short_accepted, turns, turns_busy}
use Rattle.std.specs.Prelude.{Result, Ok, Err}

-- ---- refuses everything: two times 1, no arrows, M = 1, D = 2

pub refuses_graph : (r : Refusal) → ¬ IsCheck (graph_rows short []) (Err r)
unfolding IsCheck
refuses_graph r h = not_both (graph_rows short []) r short_accepted h

pub refuses_measure : (r : Refusal) → ¬ IsMeasure (graph_rows short []) short [] (Err r)
unfolding IsMeasure
refuses_measure r h = not_both (graph_rows short []) r short_accepted h

pub refuses_total_work : (r : Refusal) → ¬ IsTotalWork short [] (Err r)
unfolding IsTotalWork
refuses_total_work r h = not_both (graph_rows short []) r short_accepted h

pub refuses_longest_path : (r : Refusal) → ¬ IsLongestPath short [] (Err r)
unfolding IsLongestPath
refuses_longest_path r h = not_both (graph_rows short []) r short_accepted h

pub refuses_verdict : (figures : Figures) (r : Refusal) → ¬ IsOutcome short [] 1 2 figures (Err r)
unfolding IsOutcome
refuses_verdict figures r h =
    not_both (verdict_rows short [] 1 2) r (accepted_verdict short [] 1 2 short_sound one_processor (record { low = omega arith; high = omega arith })) h.0

pair_refused : (t u : ℕ) (before after : List Entry) (r : Refusal) → 1 ≤ t → 1 ≤ u → 2 ≤ length before
    → ¬ IsListed (t ∷ u ∷ []) [] 1 in_turn before after (Err r)
unfolding IsListed
pair_refused t u before after r l m room h = not_both (list_rows (t ∷ u ∷ []) [] 1 in_turn (length before)) r (pair_listed t u (length before) l m room) h.0

pub refuses_list_plan : (before after : List Entry) (r : Refusal) → 2 ≤ length before → ¬ IsListed short [] 1 in_turn before after (Err r)
refuses_list_plan before after r room = pair_refused 1 1 before after r (omega arith) (omega arith) room

pub refuses_plan_check : (r : Refusal) → ¬ IsChecked short [] 1 turns (Err r)
unfolding IsChecked
refuses_plan_check r h = not_both (check_rows short [] 1 turns) r (accepted_plan short [] 1 turns short_sound turns_busy) h

-- the two subtasks in the STG layout: "2", "0 0 0", "1 1 0", "2 1 0", "3 0 0"
abbrev pub text : List ℕ
text =
    50 ∷ 10 ∷ 48 ∷ 32 ∷ 48 ∷ 32 ∷ 48 ∷ 10 ∷ 49 ∷ 32 ∷ 49 ∷ 32 ∷ 48 ∷ 10 ∷ 50 ∷ 32 ∷ 49 ∷ 32 ∷ 48 ∷ 10 ∷ 51 ∷ 32 ∷ 48 ∷ 32 ∷ 48 ∷ []

text_reads : read_text 256 2048 text ≡ graph short []
unfolding read_text read_lines entry_line task_lines exit_line trailer with_task is_task is_shape is_first is_size is_entry_dummy is_exit_dummy may_follow arrows_into lines fields all_pass value_from proper numbers
text_reads = refl

pub refuses_text : (times_row : List ℕ) (arrows_row : List (List ℕ)) (r : Refusal) → ¬ IsRead 256 2048 text times_row arrows_row (Err r)
unfolding IsReplyTo
refuses_text times_row arrows_row r h =
    let q : IsReplyTo (graph short []) 256 2048 times_row arrows_row (Err r) = rw text_reads at h in
    not_both (time_and_arrow_rows short []) r (read_accepted short [] short_accepted) q.0

-- their text as the writer has it: "2", "0 0 0", "1 1 1 0", "2 1 1 0", "3 0 2 1 2"
text_size : length (stg_text short []) ≡ 34
unfolding stg_text stg_lines text_of line further decimal decimal_in with_count subtask_lines exit_numbers lasts_of passing has_arrow
text_size = refl

pub refuses_writing : (before after : List ℕ) (r : Refusal) → 34 ≤ length before → ¬ IsWritten short [] before after (Err r)
unfolding IsWritten write_rows Accepted
refuses_writing before after r room h =
    let fits : ¬ (length before < length (stg_text short [])) = λ l. omega (arith, text_size) in
    not_both (write_rows short [] (length before)) r (accepted_join (graph_rows short []) _ short_accepted (fits, tt)) h.0

-- ---- calls every graph late, or only one whose D is S / M rounded down: times 1 and 2, no arrows, M = 2, D = 2, where S / M is 2 1/2

abbrev pub uneven : List ℕ
uneven = 1 ∷ 2 ∷ []

pub calls_late : (figures : Figures) (shortfall : ℕ) → ¬ IsOutcome uneven [] 2 2 figures (Ok (Late shortfall))
unfolding IsOutcome IsVerdict sure_end
calls_late figures shortfall (a, f, v) = omega (arith, v.0, (pair_figures 1 2 2 2 figures (omega arith) f).2)

-- ---- always says "fits": two times 1, no arrows, M = 1, D = 1

pub calls_fits : (figures : Figures) (spare : ℕ) → ¬ IsOutcome short [] 1 1 figures (Ok (Fits spare))
unfolding IsOutcome IsVerdict sure_end
calls_fits figures spare (a, f, v) = omega (arith, v.0, (pair_figures 1 1 1 1 figures (omega arith) f).2)

-- ---- makes up C, P or S: times 1 and 2, no arrows, M = 2, D = 3

pub makes_up_C : (C : ℕ) → IsTotalWork uneven [] (Ok C) → C ≡ 3
unfolding IsTotalWork
makes_up_C C h = h.1 ∙ pair_total 1 2

pub makes_up_P : (P : ℕ) → IsLongestPath uneven [] (Ok P) → P ≡ 2
unfolding IsLongestPath
makes_up_P P h = one_longest P 2 h.1 (pair_longest 1 2 (omega arith))

pub makes_up_S : (figures : Figures) (verdict : Verdict) → IsOutcome uneven [] 2 3 figures (Ok verdict)
    → (figures.c ≡ 3) × (figures.p ≡ 2) × (figures.s ≡ 5)
unfolding IsOutcome
makes_up_S figures verdict (a, f, v) = pair_figures 1 2 2 3 figures (omega arith) f

-- ---- returns the same plan: times 1 and 1, then 2 and 2, on one processor

abbrev pub long : List ℕ
long = 2 ∷ 2 ∷ []

short_early : (plan : List Entry) → IsListPlan short [] in_turn 1 plan → (j : ℕ) → IsSubtask short j → start_of plan j ≤ 1
unfolding end_of time_of
short_early plan p j s =
    let v = by_rule short [] 1 short_sound in_turn (pair_order 1 1) p.made in
    let x = ends_early short [] 1 short_sound p.clock plan (omega arith) v j s (p.all j s) in
    omega (arith, pair_total 1 1, both (λ j. time_of short j ≡ 1) refl refl j s)

-- two that start at 0 or 1 and run for 2 both run at 1
long_late : (plan : List Entry) → IsListPlan long [] in_turn 1 plan → start_of plan 1 ≤ 1 → start_of plan 2 ≤ 1 → ⊥
unfolding end_of time_of
long_late plan p a b =
    let v = by_rule long [] 1 (pair_sound 2 2 (omega arith) (omega arith)) in_turn (pair_order 2 2) p.made in
    let x = p.all 1 first in
    let y = p.all 2 second in
    v.apart 1 2 1 first second (λ e. omega arith) (omega (arith, v.range 1 first x, v.range 2 second y))
    (record { placed = x; begun = a; unended = omega arith }) (record { placed = y; begun = b; unended = omega arith })

pub returns_same_plan : (before after : List Entry) (a b : Result ℕ Refusal) → 2 ≤ length before → IsListed short [] 1 in_turn before after a
    → ¬ IsListed long [] 1 in_turn before after b
unfolding IsListed
returns_same_plan before after (Ok E) (Ok F) room p q =
    let e = short_early (take 2 after) p.1.plan in
    long_late (take 2 after) q.1.plan (e 1 first) (e 2 second)
returns_same_plan before after (Err a) b room p q = pair_refused 1 1 before after a (omega arith) (omega arith) room p
returns_same_plan before after (Ok E) (Err b) room p q = pair_refused 2 2 before after b (omega arith) (omega arith) room q

-- ---- writes no plan: two times 1, a row of two entries that are not placed

abbrev pub blank : List Entry
blank = not_placed ∷ not_placed ∷ []

pub writes_no_plan : (E : ℕ) → ¬ IsListed short [] 1 in_turn blank blank (Ok E)
unfolding IsListed processor_of
writes_no_plan E h = let x : 1 ≤ processor_of blank 1 = h.1.plan.all 1 first in omega arith

-- ---- places work at t = 0 and then only moves the clock: two times 1, one processor

-- where the rule's clock has come to 2, both are placed
pub moves_clock : (plan : List Entry) → ByRule short [] in_turn 1 2 plan → (j : ℕ) → IsSubtask short j → Placed plan j
moves_clock plan r j s = by_cases (dec_le 1 (processor_of plan j)) (λ l. l)
    (λ h. absurd (omega (
      arith,
      pair_total 1 1,
      still_early short [] 1 short_sound 2 plan (omega arith) (by_rule short [] 1 short_sound in_turn (pair_order 1 1) r) j s h,
    )))

-- the second placed at 2, though it was ready and processor 1 free at 1
abbrev pub gap : List Entry
gap = at 1 0 ∷ at 1 2 ∷ []

pub lists_gap : (before : List Entry) (E : ℕ) → ¬ IsListed short [] 1 in_turn before gap (Ok E)
unfolding IsListed start_of
lists_gap before E h = let x : start_of gap 2 ≤ 1 = short_early gap h.1.plan 2 second in omega arith

pub checks_gap : (E : ℕ) → ¬ IsChecked short [] 1 gap (Ok E)
unfolding IsChecked start_of end_of time_of
checks_gap E h = (busy_plan short [] 1 gap h.0).1.busy 1 (record {
  subtask = 2;
  is_subtask = second;
  ready = record { served = λ i w. absurd (none_precedes w); waiting = inl (omega arith) };
  processor = 1;
  in_range = record { low = omega arith; high = omega arith };
  free = λ j s e r. both (λ j. RunsAt short gap j 1 → ⊥) (λ q. omega (arith, q.unended)) (λ q. omega (arith, q.begun)) j s r;
})

-- ---- writes nothing

pub writes_nothing : (before after : List ℕ) → ¬ IsWritten short [] before after (Ok 0)
unfolding IsWritten
writes_nothing before after h = omega (arith, text_size, h.1)

-- ---- clears the rest of the room: 35 bytes, all of them 7 before, of which the text takes 34

pub clears_rest : (k : ℕ) → ¬ IsWritten short [] (replicate 35 7) (stg_text short [] ++ 0 ∷ []) (Ok k)
unfolding IsWritten
clears_rest k (a, n, h) =
    let rest = rw (n, text_size) at (append_cancel_left (stg_text short []) (0 ∷ []) (drop k (replicate 35 7)) h) in
    let z : ◌≡◌ {A = ℕ} 0 7 = ap (λ (l : List ℕ). get_or l 0 0) rest in
    omega arith

-- ---- gives no place: times 1, 0 and 0, which are refused by 2 at subtask 2

pub drops_places : (r : Refusal) → place_of r ≡ 0 → ¬ IsCheck (graph_rows (1 ∷ 0 ∷ 0 ∷ []) []) (Err r)
unfolding IsCheck
drops_places r none h =
    let same = one_refusal (graph_rows (1 ∷ 0 ∷ 0 ∷ []) []) r (TimeZero 2) h placed_refusals.two in
    let z = ap place_of same in
    omega (arith, z, none)
