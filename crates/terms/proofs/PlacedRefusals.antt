-- A refusal with its place over given numbers, one of each kind of row, shown from the definitions alone. Assumes nothing.
use Rattle.std.proofs.Common.{◌≡◌, refl, List, [], ◌∷◌, ℕ, ◌<◌, T, length}
use mathlib.Core.Logic.Dec
use Rattle.std.proofs.Math.Decide.{dec_le, dec_lt, ℕ_discrete}
use Rattle.terms.specs.Rows.{IsAt, RefusedBy}
use Rattle.terms.specs.Graphs.{time_of, from_of, to_of, LeadsTo, step, more}
use Rattle.terms.specs.Plans.{at, processor_of, start_of, end_of}
use Rattle.terms.specs.Refusals.{graph_rows, lowest}
use Rattle.terms.specs.Replies.{IsChecked}
use Rattle.terms.specs.declared.Entry.{Entry}
use Rattle.terms.proofs.Decide.{is_yes, by_yes, via, dec_when, dec_or_not, seek, dec_some, dec_all, dec_each, dec_among, dec_some_subtask, dec_repeats}
use Rattle.terms.proofs.Decide.{dec_runs, dec_free, dec_served, dec_ready, dec_idle, dec_starts_early, dec_share}
use Rattle.terms.proofs.Decisions.{Decision, holds_at, dec_plain, dec_first_subtask, dec_first_arrow, dec_lowest, dec_pair_at, dec_lower}
use Rattle.terms.proofs.Decisions.{dec_smallest_pair, Refuses, told, refuses, then}
use Rattle.terms.proofs.Tables.{dec_finishes, graph_decided, on_decided, dec_idle_sometime, check_decided, dec_begun}
use Rattle.terms.proofs.Examples.{acyclic, arrow_at, checked_refused}
use Rattle.std.specs.Prelude.{Err}
use Rattle.terms.specs.declared.Refusal.{Refusal}
use Rattle.terms.specs.declared.Refusal.TheVariants.{ArrowOutside, ArrowToItself, ArrowTwice, Cycle, Idle, Overlap, ProcessorOutside, StartEarly, StartLarge, TimeZero}

-- ---- graphs

abbrev ones : List ℕ
ones = 1 ∷ 1 ∷ 1 ∷ 1 ∷ []

-- two arrows that name no subtask, 1→5 and 1→6
abbrev outward : List (List ℕ)
outward = (1 ∷ 2 ∷ []) ∷ (1 ∷ 5 ∷ []) ∷ (1 ∷ 6 ∷ []) ∷ []

-- two that go from a subtask to itself, 2→2 and 1→1
abbrev own_ends : List (List ℕ)
own_ends = (1 ∷ 2 ∷ []) ∷ (2 ∷ 2 ∷ []) ∷ (1 ∷ 1 ∷ []) ∷ []

-- 1→2 twice
abbrev twice : List (List ℕ)
twice = (1 ∷ 2 ∷ []) ∷ (2 ∷ 3 ∷ []) ∷ (1 ∷ 2 ∷ []) ∷ []

-- a cycle of 2 and 3, to which 1 leads and which leads to 4
abbrev around : List (List ℕ)
around = (1 ∷ 2 ∷ []) ∷ (2 ∷ 3 ∷ []) ∷ (3 ∷ 2 ∷ []) ∷ (3 ∷ 4 ∷ []) ∷ []

-- both 2 and 3 wait for 1
abbrev fork : List (List ℕ)
fork = (1 ∷ 2 ∷ []) ∷ (1 ∷ 3 ∷ []) ∷ []

-- ---- what is refused, and where

abbrev pub RefusedPlan : List ℕ → List (List ℕ) → ℕ → List Entry → Refusal → Type 0
RefusedPlan times arrows M plan refusal = IsChecked times arrows M plan (Err refusal)

pub record PlacedRefusals : Type 0 where
  pub two : RefusedBy (graph_rows (1 ∷ 0 ∷ 0 ∷ []) []) (TimeZero 2)
  pub four : RefusedBy (graph_rows ones outward) (ArrowOutside 2)
  pub five : RefusedBy (graph_rows ones own_ends) (ArrowToItself 2)
  pub six : RefusedBy (graph_rows ones twice) (ArrowTwice 3)
  pub seven : RefusedBy (graph_rows ones around) (Cycle 2)
  -- processors 3 and 4 of two
  pub thirteen : RefusedPlan (1 ∷ 1 ∷ 1 ∷ []) [] 2 (at 1 0 ∷ at 3 0 ∷ at 4 0 ∷ []) (ProcessorOutside 2)
  pub fourteen : RefusedPlan (1 ∷ 1 ∷ []) [] 2 (at 1 0 ∷ at 2 16776961 ∷ []) (StartLarge 2)
  -- 2 and 3 both start before 1 ends
  pub fifteen : RefusedPlan (2 ∷ 1 ∷ 1 ∷ []) fork 2 (at 1 0 ∷ at 2 1 ∷ at 2 0 ∷ []) (StartEarly 2)
  -- 2 and 4 share an instant, and so do 3 and 4
  pub sixteen : RefusedPlan (1 ∷ 2 ∷ 2 ∷ 2 ∷ []) [] 2 (at 2 0 ∷ at 1 0 ∷ at 1 2 ∷ at 1 1 ∷ []) (Overlap 2 4)
  -- 2 waits until 5, although the processor is free from 3 on
  pub seventeen : RefusedPlan (3 ∷ 1 ∷ []) [] 1 (at 1 0 ∷ at 1 5 ∷ []) (Idle 3)

-- ---- how each is found

-- what is led to has an arrow into it
arrow_into : {arrows : List (List ℕ)} {i j : ℕ} → LeadsTo arrows i j → (a : ℕ) × (a < length arrows) × (to_of arrows a ≡ j)
arrow_into (step w) = (w.place, w.inside, w.arrives)
arrow_into (more l w) = (w.place, w.inside, w.arrives)

module _ (arrows : List (List ℕ)) (r : ℕ) where
  -- no arrow goes to a number below r
  abbrev NoneBelow : Dec ((j : ℕ) → j < r → ¬ ((a : ℕ) × (a < length arrows) × (to_of arrows a ≡ j)))
  NoneBelow = dec_all r (λ j. ¬ ((a : ℕ) × (a < length arrows) × (to_of arrows a ≡ j)))
      (λ j. Dec.not (dec_some (length arrows) (λ a. to_of arrows a ≡ j) (λ a. ℕ_discrete (to_of arrows a) j)))

  unfoldable lowest_cycle : LeadsTo arrows r r → T (is_yes NoneBelow) → Decision (lowest 7 (λ j. LeadsTo arrows j j))
  unfolding IsAt
  lowest_cycle on none = holds_at r 0 (r, on) (record { is_so = on; least = λ j l h. by_yes NoneBelow none j l (arrow_into h) }, refl)

pub placed_refusals : PlacedRefusals
unfolding Refuses then graph_decided on_decided check_decided dec_idle_sometime dec_begun dec_finishes lowest_cycle via dec_when dec_or_not seek dec_some dec_all dec_each dec_among dec_some_subtask dec_plain dec_first_subtask dec_first_arrow dec_lowest dec_pair_at dec_lower dec_smallest_pair dec_repeats dec_runs dec_free dec_served dec_ready dec_idle dec_starts_early dec_share Dec.and Dec.not dec_le dec_lt ℕ_discrete time_of from_of to_of processor_of start_of end_of
placed_refusals = record {
  two = refuses _ (graph_decided (1 ∷ 0 ∷ 0 ∷ []) [] (acyclic (1 ∷ 1 ∷ 1 ∷ []) [] (1 ∷ 1 ∷ 1 ∷ []) 1 tt)) told;
  four = refuses _ (graph_decided ones outward (acyclic ones outward (1 ∷ 2 ∷ 1 ∷ 1 ∷ 2 ∷ 2 ∷ []) 2 tt)) told;
  five = refuses _ (graph_decided ones own_ends (lowest_cycle own_ends 1 (step (arrow_at own_ends 2 tt)) tt)) told;
  six = refuses _ (graph_decided ones twice (acyclic ones twice (1 ∷ 2 ∷ 3 ∷ 1 ∷ []) 3 tt)) told;
  seven = refuses _ (graph_decided ones around (lowest_cycle around 2 (more (step {j = 3} (arrow_at around 1 tt)) (arrow_at around 2 tt)) tt)) told;
  thirteen = checked_refused (1 ∷ 1 ∷ 1 ∷ []) [] (1 ∷ 1 ∷ 1 ∷ []) 1 2 0 _ (at 1 0 ∷ at 3 0 ∷ at 4 0 ∷ []) tt tt told;
  fourteen = checked_refused (1 ∷ 1 ∷ []) [] (1 ∷ 1 ∷ []) 1 2 16776961 _ (at 1 0 ∷ at 2 16776961 ∷ []) tt tt told;
  fifteen = checked_refused (2 ∷ 1 ∷ 1 ∷ []) fork (2 ∷ 3 ∷ 3 ∷ []) 3 2 1 _ (at 1 0 ∷ at 2 1 ∷ at 2 0 ∷ []) tt tt told;
  sixteen = checked_refused (1 ∷ 2 ∷ 2 ∷ 2 ∷ []) [] (1 ∷ 2 ∷ 2 ∷ 2 ∷ []) 2 2 2 _ (at 2 0 ∷ at 1 0 ∷ at 1 2 ∷ at 1 1 ∷ []) tt tt told;
  seventeen = checked_refused (3 ∷ 1 ∷ []) [] (3 ∷ 1 ∷ []) 3 1 5 _ (at 1 0 ∷ at 1 5 ∷ []) tt tt told;
}
