-- The starred examples 1 to 10 and 14 of docs/PLANNER.md, shown from the definitions alone. Assumes nothing.
use Rattle.std.proofs.Common.{◌≡◌, refl, sym, List, [], ◌∷◌, ℕ, arith, T, length, replicate, take, drop}
use mathlib.Core.Logic.Dec
use Rattle.std.proofs.Math.Decide.{dec_le, dec_lt, ℕ_discrete}
use lib.Ieee.{binary32, round, to_bits}
use Rattle.terms.specs.Rows.{Accepted}
use Rattle.terms.specs.Graphs.{IsSubtask, time_of, from_of, to_of, Precedes, LeadsTo}
use Rattle.terms.specs.Sums.{sum}
use Rattle.terms.specs.Paths.{total_work, PathTo, alone, along, weight, IsLongest}
use Rattle.terms.specs.Verdicts.{bound, sure_end, IsVerdict, load_of}
use Rattle.terms.specs.Plans.{at, not_placed, processor_of, start_of, end_of}
use Rattle.terms.specs.ListRule.{put}
use Rattle.terms.specs.Joins.{graph_of}
use Rattle.terms.specs.Refusals.{graph_rows, lowest}
use Rattle.terms.specs.Replies.{IsOutcome, IsAnswer, IsListed, IsChecked}
use Rattle.terms.specs.NestGraphs.{HasWeights}
use Rattle.terms.specs.declared.Entry.{Entry}
use Rattle.terms.specs.declared.Refusal.{Refusal}
use Rattle.terms.specs.declared.Verdict.{Verdict}
use Rattle.terms.specs.declared.Verdict.TheVariants.{Fits, Late}
use Rattle.terms.proofs.Decide.{is_yes, by_yes, via, dec_when, dec_or_not, seek, dec_some, dec_all, dec_each, dec_among, dec_some_subtask}
use Rattle.terms.proofs.Decide.{dec_repeats, dec_order, dec_runs, dec_free, dec_served, dec_ready, dec_idle, dec_starts_early, dec_share}
use Rattle.terms.proofs.Decisions.{Decision, never, dec_plain, dec_first_subtask, dec_first_arrow, dec_lowest, dec_pair_at, dec_lower, dec_smallest_pair}
use Rattle.terms.proofs.Decisions.{Accepts, Refuses, told, accepts, refuses, then}
use Rattle.terms.proofs.Tables.{dec_finishes, no_cycle, longest_by, graph_decided, on_decided}
use Rattle.terms.proofs.Tables.{verdict_decided, list_decided, dec_idle_sometime, check_decided, stepped, after, dec_ends, dec_begun}
use Rattle.std.specs.Prelude.{Ok, Err}
use Rattle.terms.specs.declared.Refusal.TheVariants.{Idle, StartEarly}

-- ---- graph G

abbrev pub times_g : List ℕ
times_g = 3 ∷ 2 ∷ 2 ∷ 2 ∷ 4 ∷ 4 ∷ 4 ∷ 4 ∷ 9 ∷ []

abbrev pub arrows_g : List (List ℕ)
arrows_g = (1 ∷ 9 ∷ []) ∷ (4 ∷ 5 ∷ []) ∷ (4 ∷ 6 ∷ []) ∷ (4 ∷ 7 ∷ []) ∷ (4 ∷ 8 ∷ []) ∷ []

abbrev pub order_g : List ℕ
order_g = 1 ∷ 2 ∷ 3 ∷ 4 ∷ 5 ∷ 6 ∷ 7 ∷ 8 ∷ 9 ∷ []

-- every time shorter by 1
abbrev pub shorter_g : List ℕ
shorter_g = 2 ∷ 1 ∷ 1 ∷ 1 ∷ 3 ∷ 3 ∷ 3 ∷ 3 ∷ 8 ∷ []

-- without 4→5 and 4→6
abbrev pub fewer_g : List (List ℕ)
fewer_g = (1 ∷ 9 ∷ []) ∷ (4 ∷ 7 ∷ []) ∷ (4 ∷ 8 ∷ []) ∷ []

-- six subtasks of time 1, then one of 3 and one of 1
abbrev pub long_last : List ℕ
long_last = 1 ∷ 1 ∷ 1 ∷ 1 ∷ 1 ∷ 1 ∷ 3 ∷ 1 ∷ []

-- ---- what the examples say

-- the graph is accepted and has these figures on M processors
pub record HasFigures (times : List ℕ) (arrows : List (List ℕ)) (M C P S : ℕ) : Type 0 where
  pub accepted : Accepted (graph_rows times arrows)
  pub work : total_work times ≡ C
  pub path : IsLongest times arrows P
  pub sum : bound C P M ≡ S

-- the list plan, written to a row of n entries, ends at E
abbrev pub ListPlanEnds : List ℕ → List (List ℕ) → List ℕ → ℕ → ℕ → Type 0
ListPlanEnds times arrows order M E = (plan : List Entry) × IsListed times arrows M order (replicate (length times) not_placed) plan (Ok E)

-- the whole answer to a deadline question
abbrev pub Says : List ℕ → List (List ℕ) → ℕ → ℕ → ℕ → ℕ → ℕ → Verdict → Type 0
Says times arrows M D C P S verdict =
    IsAnswer times arrows M D (record { figures = record { c = C; p = P; s = S; load = load_of C M D }; outcome = Ok verdict })

-- both subtasks on processor 1
abbrev pub both_on_one : ℕ → ℕ → List Entry
both_on_one s t = at 1 s ∷ at 1 t ∷ []

pub record Examples : Type 0 where
  pub one : HasFigures times_g arrows_g 3 34 12 58 × ListPlanEnds times_g arrows_g order_g 3 12
  pub two : HasFigures shorter_g arrows_g 3 25 10 45 × ListPlanEnds shorter_g arrows_g order_g 3 13
  pub three : HasFigures times_g arrows_g 4 34 12 70 × ListPlanEnds times_g arrows_g order_g 4 15
  pub four : ListPlanEnds times_g fewer_g order_g 3 16
  pub five : Says times_g arrows_g 3 20 34 12 58 (Fits 1) × Says times_g arrows_g 3 19 34 12 58 (Fits 0) × Says times_g arrows_g 3 18 34 12 58 (Late 1)
  pub six : Says (5 ∷ 5 ∷ []) [] 2 8 10 5 15 (Fits 1) × Says (5 ∷ 5 ∷ []) [] 2 7 10 5 15 (Fits 0) × Says (5 ∷ 5 ∷ []) [] 2 6 10 5 15 (Late 1)
  pub seven : Says (1 ∷ []) [] 16 1 1 1 16 (Fits 0)
  pub eight : HasFigures (3 ∷ 4 ∷ []) ((1 ∷ 2 ∷ []) ∷ []) 2 7 7 14
      × IsChecked (3 ∷ 4 ∷ []) ((1 ∷ 2 ∷ []) ∷ []) 2 (both_on_one 0 3) (Ok 7)
      × IsChecked (3 ∷ 4 ∷ []) ((1 ∷ 2 ∷ []) ∷ []) 2 (both_on_one 0 2) (Err (StartEarly 2))
  pub nine : IsChecked (3 ∷ []) [] 1 (at 1 1 ∷ []) (Err (Idle 0))
  pub ten : IsChecked (5 ∷ 5 ∷ []) [] 2 (both_on_one 0 5) (Err (Idle 0))
      × IsChecked (5 ∷ 5 ∷ []) [] 1 (both_on_one 0 5) (Ok 10)
  -- the list plan ends at the sure end, 5 1/3 rounded down
  pub fourteen : HasFigures long_last [] 3 10 3 16 × ListPlanEnds long_last [] (take 8 order_g) 3 (sure_end 16 3) × Says long_last [] 3 5 10 3 16 (Fits 0)
  -- example 5's load, 34 / 60, is the float nearest to 0.56666..
  pub load : to_bits binary32 (load_of 34 3 20) ≡ 0x3f111111

-- ---- how each is found: by deciding, over the numbers of the example

module _ (times : List ℕ) (arrows : List (List ℕ)) (finish : List ℕ) (P : ℕ) where
  -- a table of finish times up to P
  abbrev pub Finished : Type 0
  Finished = T (is_yes (dec_finishes times arrows finish P))

  abbrev pub acyclic : Finished → Decision (lowest 7 (λ j. LeadsTo arrows j j))
  acyclic f = never (no_cycle times arrows finish P (by_yes (dec_finishes times arrows finish P) f))

  pub has_weights : (C : ℕ) (f : Finished) (j : ℕ) (path : PathTo times arrows j) → weight path ≡ P
      → Accepts (graph_decided times arrows (acyclic f)) → total_work times ≡ C → HasWeights (graph_of times arrows) (record { c = C; p = P })
  has_weights C f j path w a c = record {
    accepted = accepts (graph_decided times arrows (acyclic f)) a;
    work = c;
    path = longest_by times arrows finish P (by_yes (dec_finishes times arrows finish P) f) j path w;
  }

  has_figures : (M C S : ℕ) (f : Finished) (j : ℕ) (path : PathTo times arrows j) → weight path ≡ P
      → Accepts (graph_decided times arrows (acyclic f)) → total_work times ≡ C → bound C P M ≡ S → HasFigures times arrows M C P S
  has_figures M C S f j path w a c s =
      let h = has_weights C f j path w a c in
      record { accepted = h.accepted; work = h.work; path = h.path; sum = s }

  says : (M D C S : ℕ) (verdict : Verdict) (f : Finished) → HasFigures times arrows M C P S → Accepts (verdict_decided times arrows M D (acyclic f))
      → IsVerdict S M D verdict → Says times arrows M D C P S verdict
  unfolding IsOutcome
  says M D C S verdict f h a v = (
    accepts (verdict_decided times arrows M D (acyclic f)) a,
    record { work = sym h.work; path = h.path; sum = sym h.sum; load_is = refl },
    v,
  )

  checked_ends : (M K E : ℕ) (plan : List Entry) (f : Finished) (b : T (is_yes (dec_begun times plan K)))
      → Accepts (check_decided times arrows M plan K (acyclic f) (by_yes (dec_begun times plan K) b)) → T (is_yes (dec_ends times plan E)) → IsChecked
      times arrows M plan (Ok E)
  unfolding IsChecked
  checked_ends M K E plan f b a e = (
    accepts (check_decided times arrows M plan K (acyclic f) (by_yes (dec_begun times plan K) b)) a,
    by_yes (dec_ends times plan E) e,
  )

  pub checked_refused : (M K : ℕ) (r : Refusal) (plan : List Entry) (f : Finished) (b : T (is_yes (dec_begun times plan K)))
      → Refuses r (check_decided times arrows M plan K (acyclic f) (by_yes (dec_begun times plan K) b)) → IsChecked times arrows M plan (Err r)
  unfolding IsChecked
  checked_refused M K r plan f b e = refuses r (check_decided times arrows M plan K (acyclic f) (by_yes (dec_begun times plan K) b)) e

  -- the rule has made the list plan after k steps
  list_plan_ends : (order : List ℕ) (M k E : ℕ) (f : Finished)
      → Accepts (list_decided times arrows M order (length (replicate (length times) not_placed)) (acyclic f))
      → take (length times) (after times arrows order M k).plan ≡ (after times arrows order M k).plan
      → drop (length times) (after times arrows order M k).plan ≡ drop (length times) (replicate (length times) not_placed)
      → (b : T (is_yes (dec_begun times (after times arrows order M k).plan E)))
      → Accepts (check_decided times arrows M (after times arrows order M k).plan E (acyclic f)
      (by_yes (dec_begun times (after times arrows order M k).plan E) b))
      → T (is_yes (dec_ends times (after times arrows order M k).plan E))
      → ListPlanEnds times arrows order M E
  unfolding IsListed
  list_plan_ends order M k E f a whole past b c e =
      let m = after times arrows order M k in (
        m.plan,
        (
          accepts (list_decided times arrows M order (length (replicate (length times) not_placed)) (acyclic f)) a,
          record {
            plan = rw whole (record { clock = m.clock; made = m.made; all = λ j s. (by_yes (dec_begun times m.plan E) b j s).0 });
            past = past;
            checked = rw whole (checked_ends M E E m.plan f b c e);
          },
        ),
      )

-- along the arrow at a place
abbrev pub arrow_at : (arrows : List (List ℕ)) (a : ℕ) → T (is_yes (dec_lt a (length arrows))) → Precedes arrows (from_of arrows a) (to_of arrows a)
arrow_at arrows a l = record { place = a; inside = by_yes (dec_lt a (length arrows)) l; begins = refl; arrives = refl }

abbrev pub subtask_at : (times : List ℕ) (j : ℕ) → T (is_yes (dec_among 1 (length times) j)) → IsSubtask times j
subtask_at times j t = by_yes (dec_among 1 (length times) j) t

abbrev finish_g : List ℕ
finish_g = 3 ∷ 2 ∷ 2 ∷ 2 ∷ 6 ∷ 6 ∷ 6 ∷ 6 ∷ 12 ∷ []

abbrev shorter_finish_g : List ℕ
shorter_finish_g = 2 ∷ 1 ∷ 1 ∷ 1 ∷ 4 ∷ 4 ∷ 4 ∷ 4 ∷ 10 ∷ []

figures_g : (M S : ℕ) → bound 34 12 M ≡ S → HasFigures times_g arrows_g M 34 12 S
unfolding Accepts graph_decided dec_finishes via seek dec_some dec_all dec_each dec_among dec_plain dec_first_subtask dec_first_arrow dec_repeats Dec.and Dec.not dec_le dec_lt ℕ_discrete time_of from_of to_of total_work sum weight
figures_g M S e = has_figures times_g arrows_g finish_g 12 M 34 S tt 9 (along (alone 1 (subtask_at times_g 1 tt)) 9 (arrow_at arrows_g 0 tt)) refl tt refl e

load_of_five : to_bits binary32 (load_of 34 3 20) ≡ 0x3f111111
unfolding load_of round to_bits
load_of_five = refl

pub examples : Examples
unfolding Accepts Refuses then graph_decided on_decided verdict_decided list_decided check_decided dec_idle_sometime after stepped dec_ends dec_begun dec_finishes via dec_when dec_or_not seek dec_some dec_all dec_each dec_among dec_some_subtask dec_plain dec_first_subtask dec_first_arrow dec_lowest dec_pair_at dec_lower dec_smallest_pair dec_repeats dec_order dec_runs dec_free dec_served dec_ready dec_idle dec_starts_early dec_share Dec.and Dec.not dec_le dec_lt ℕ_discrete time_of from_of to_of processor_of start_of end_of put total_work sum weight bound sure_end IsVerdict
examples =
    let two_fives : HasFigures (5 ∷ 5 ∷ []) [] 2 10 5 15 =
    has_figures (5 ∷ 5 ∷ []) [] (5 ∷ 5 ∷ []) 5 2 10 15 tt 1 (alone 1 (subtask_at (5 ∷ 5 ∷ []) 1 tt)) refl tt refl refl in
    let long_last_lem : HasFigures long_last [] 3 10 3 16 =
    has_figures long_last [] long_last 3 3 10 16 tt 7 (alone 7 (subtask_at long_last 7 tt)) refl tt refl refl in
    record {
      one = (figures_g 3 58 refl, list_plan_ends times_g arrows_g finish_g 12 order_g 3 21 12 tt tt refl refl tt tt tt);
      two = (
        has_figures shorter_g arrows_g shorter_finish_g 10 3 25 45 tt 9 (along (alone 1 (subtask_at shorter_g 1 tt)) 9 (arrow_at arrows_g 0 tt)) refl tt refl refl,
        list_plan_ends shorter_g arrows_g shorter_finish_g 10 order_g 3 22 13 tt tt refl refl tt tt tt,
      );
      three = (figures_g 4 70 refl, list_plan_ends times_g arrows_g finish_g 12 order_g 4 24 15 tt tt refl refl tt tt tt);
      four = list_plan_ends times_g fewer_g finish_g 12 order_g 3 25 16 tt tt refl refl tt tt tt;
      five = (
        says times_g arrows_g finish_g 12 3 20 34 58 (Fits 1) tt (figures_g 3 58 refl) tt (omega arith, refl),
        says times_g arrows_g finish_g 12 3 19 34 58 (Fits 0) tt (figures_g 3 58 refl) tt (omega arith, refl),
        says times_g arrows_g finish_g 12 3 18 34 58 (Late 1) tt (figures_g 3 58 refl) tt (omega arith, refl),
      );
      six = (
        says (5 ∷ 5 ∷ []) [] (5 ∷ 5 ∷ []) 5 2 8 10 15 (Fits 1) tt two_fives tt (omega arith, refl),
        says (5 ∷ 5 ∷ []) [] (5 ∷ 5 ∷ []) 5 2 7 10 15 (Fits 0) tt two_fives tt (omega arith, refl),
        says (5 ∷ 5 ∷ []) [] (5 ∷ 5 ∷ []) 5 2 6 10 15 (Late 1) tt two_fives tt (omega arith, refl),
      );
      seven = says (1 ∷ []) [] (1 ∷ []) 1 16 1 1 16 (Fits 0) tt
          (has_figures (1 ∷ []) [] (1 ∷ []) 1 16 1 16 tt 1 (alone 1 (subtask_at (1 ∷ []) 1 tt)) refl tt refl refl) tt (omega arith, refl);
      eight = (
        has_figures (3 ∷ 4 ∷ []) ((1 ∷ 2 ∷ []) ∷ []) (3 ∷ 7 ∷ []) 7 2 7 14 tt 2
            (along (alone 1 (subtask_at (3 ∷ 4 ∷ []) 1 tt)) 2 (arrow_at ((1 ∷ 2 ∷ []) ∷ []) 0 tt)) refl tt refl refl,
        checked_ends (3 ∷ 4 ∷ []) ((1 ∷ 2 ∷ []) ∷ []) (3 ∷ 7 ∷ []) 7 2 3 7 (both_on_one 0 3) tt tt tt tt,
        checked_refused (3 ∷ 4 ∷ []) ((1 ∷ 2 ∷ []) ∷ []) (3 ∷ 7 ∷ []) 7 2 2 (StartEarly 2) (both_on_one 0 2) tt tt told,
      );
      nine = checked_refused (3 ∷ []) [] (3 ∷ []) 3 1 1 (Idle 0) (at 1 1 ∷ []) tt tt told;
      ten = (
        checked_refused (5 ∷ 5 ∷ []) [] (5 ∷ 5 ∷ []) 5 2 5 (Idle 0) (both_on_one 0 5) tt tt told,
        checked_ends (5 ∷ 5 ∷ []) [] (5 ∷ 5 ∷ []) 5 1 5 10 (both_on_one 0 5) tt tt tt tt,
      );
      fourteen = (
        long_last_lem,
        list_plan_ends long_last [] long_last 3 (take 8 order_g) 3 13 5 tt tt refl refl tt tt tt,
        says long_last [] long_last 3 3 5 10 16 (Fits 0) tt long_last_lem tt (omega arith, refl),
      );
      load = load_of_five;
    }
