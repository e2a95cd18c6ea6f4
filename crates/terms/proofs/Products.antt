-- Examples 15 and 16 of docs/PLANNER.md, a join and a nest, and rows that are no nest, from the definitions alone. Assumes nothing.
use Rattle.std.proofs.Common.{◌≡◌, refl, sym, ap, ap₂, List, [], ◌∷◌, ℕ, suc, ◌≤◌, arith, length, replicate}
use mathlib.Core.Logic.Dec
use Rattle.std.proofs.Math.Nat.{suc_inj}
use Rattle.std.proofs.Math.Decide.{dec_le, dec_lt, ℕ_discrete}
use Rattle.terms.specs.Graphs.{time_of, from_of, to_of}
use Rattle.terms.specs.Sums.{sum}
use Rattle.terms.specs.Paths.{total_work, alone, along, weight}
use Rattle.terms.specs.Arrangements.{has_arrow, passing, lasts_of, firsts_of, for_each, sorted_by_from}
use Rattle.terms.specs.Joins.{Graph, graph_of, Way, end_to_end, side_by_side, each_to_each, all_arrows, joined}
use Rattle.terms.specs.Nests.{Members, none, graph, opener, Nest, count, depth, work_of, path_of, written, InRange, Ruled, IsNest, SomeNest}
use Rattle.terms.specs.NestGraphs.{ahead, whole, HasWeights, Carries, carries_none, carries_graph, carries_opener}
use Rattle.terms.specs.Replies.{IsNestMeasure}
use Rattle.terms.specs.declared.Weights.{Weights}
use Rattle.terms.proofs.Decide.{via, seek, dec_some, dec_all, dec_each, dec_among, dec_repeats}
use Rattle.terms.proofs.Decisions.{dec_plain, dec_first_subtask, dec_first_arrow, Accepts}
use Rattle.terms.proofs.Tables.{dec_finishes, graph_decided}
use Rattle.terms.proofs.Examples.{has_weights, arrow_at, subtask_at}
use Rattle.std.specs.Prelude.{Ok}

abbrev weighing : ℕ → ℕ → Weights
weighing C P = record { c = C; p = P }

-- 1 before 2 and 3
abbrev pub fork : Graph
fork = graph_of (3 ∷ 2 ∷ 1 ∷ []) ((1 ∷ 3 ∷ []) ∷ (1 ∷ 2 ∷ []) ∷ [])

-- 1 and 2 before 3
abbrev pub meeting : Graph
meeting = graph_of (4 ∷ 5 ∷ 6 ∷ []) ((2 ∷ 3 ∷ []) ∷ (1 ∷ 3 ∷ []) ∷ [])

-- ---- example 15: the meeting behind the fork, and beside it

abbrev pub behind : Graph
behind = graph_of (3 ∷ 2 ∷ 1 ∷ 4 ∷ 5 ∷ 6 ∷ [])
    ((1 ∷ 2 ∷ []) ∷ (1 ∷ 3 ∷ []) ∷ (2 ∷ 4 ∷ []) ∷ (2 ∷ 5 ∷ []) ∷ (3 ∷ 4 ∷ []) ∷ (3 ∷ 5 ∷ []) ∷ (4 ∷ 6 ∷ []) ∷ (5 ∷ 6 ∷ []) ∷ [])

abbrev pub beside : Graph
beside = graph_of (3 ∷ 2 ∷ 1 ∷ 4 ∷ 5 ∷ 6 ∷ []) ((1 ∷ 2 ∷ []) ∷ (1 ∷ 3 ∷ []) ∷ (4 ∷ 6 ∷ []) ∷ (5 ∷ 6 ∷ []) ∷ [])

pub record Example15 : Type 0 where
  pub end_to_end_is : joined end_to_end fork meeting ≡ behind
  pub side_by_side_is : joined side_by_side fork meeting ≡ beside
  pub end_to_end_has : HasWeights (joined end_to_end fork meeting) (weighing 21 16)
  pub side_by_side_has : HasWeights (joined side_by_side fork meeting) (weighing 21 11)

is_behind : joined end_to_end fork meeting ≡ behind
unfolding sorted_by_from for_each all_arrows each_to_each lasts_of firsts_of passing has_arrow
is_behind = refl

is_beside : joined side_by_side fork meeting ≡ beside
unfolding sorted_by_from for_each all_arrows each_to_each lasts_of firsts_of passing has_arrow
is_beside = refl

pub example_15 : Example15
unfolding Accepts graph_decided dec_finishes via seek dec_some dec_all dec_each dec_among dec_plain dec_first_subtask dec_first_arrow dec_repeats Dec.and Dec.not dec_le dec_lt ℕ_discrete time_of from_of to_of total_work sum weight
example_15 =
    let b : HasWeights behind (weighing 21 16) = has_weights behind.times behind.arrows (3 ∷ 5 ∷ 4 ∷ 9 ∷ 10 ∷ 16 ∷ []) 16 21 tt 6
    (along (along (along (alone 1 (subtask_at behind.times 1 tt)) 2 (arrow_at behind.arrows 0 tt)) 5 (arrow_at behind.arrows 3 tt))
    6 (arrow_at behind.arrows 7 tt)) refl tt refl in
    let s : HasWeights beside (weighing 21 11) = has_weights beside.times beside.arrows (3 ∷ 5 ∷ 4 ∷ 4 ∷ 5 ∷ 11 ∷ []) 11 21 tt 6
    (along (alone 5 (subtask_at beside.times 5 tt)) 6 (arrow_at beside.arrows 3 tt)) refl tt refl in
    record { end_to_end_is = is_behind; side_by_side_is = is_beside; end_to_end_has = rw is_behind b; side_by_side_has = rw is_beside s }

-- ---- example 16: the fork, and behind it a group of the meeting and the fork

abbrev pub members : Members Graph end_to_end
members = graph fork (opener (graph meeting (graph fork none)) none)

abbrev pub nest : Nest
nest = graph (weighing 6 5) (opener (graph (weighing 15 11) (graph (weighing 6 5) none)) none)

abbrev pub row : List (List ℕ)
row = (1 ∷ 2 ∷ 0 ∷ []) ∷ (0 ∷ 6 ∷ 5 ∷ []) ∷ (2 ∷ 2 ∷ 0 ∷ []) ∷ (0 ∷ 15 ∷ 11 ∷ []) ∷ (0 ∷ 6 ∷ 5 ∷ []) ∷ []

abbrev pub made : Graph
made = graph_of (3 ∷ 2 ∷ 1 ∷ 4 ∷ 5 ∷ 6 ∷ 3 ∷ 2 ∷ 1 ∷ [])
    ((1 ∷ 2 ∷ []) ∷ (1 ∷ 3 ∷ []) ∷ (2 ∷ 4 ∷ []) ∷ (2 ∷ 5 ∷ []) ∷ (2 ∷ 7 ∷ []) ∷ (3 ∷ 4 ∷ []) ∷ (3 ∷ 5 ∷ []) ∷ (3 ∷ 7 ∷ [])
    ∷ (4 ∷ 6 ∷ []) ∷ (5 ∷ 6 ∷ []) ∷ (7 ∷ 8 ∷ []) ∷ (7 ∷ 9 ∷ []) ∷ [])

pub record Example16 : Type 0 where
  pub is_nest : IsNest row nest
  pub work : work_of nest ≡ 27
  pub path : path_of nest ≡ 16
  pub reply : IsNestMeasure row (Ok (weighing 27 16))
  pub carries : Carries end_to_end members nest
  pub whole_is : whole members ≡ made
  pub whole_has : HasWeights (whole members) (weighing 27 16)

row_is_nest : IsNest row nest
unfolding count depth written Ruled
row_is_nest = record {
  fills = refl;
  short = omega arith;
  members = record { low = omega arith; high = omega arith };
  ruled = (light, (record { low = omega arith; high = omega arith }, (heavy, (light, tt)), tt));
  shallow = omega arith;
}
  where
    light : InRange (weighing 6 5)
    light = record { path = record { low = omega arith; high = omega arith }; work = omega arith }

    heavy : InRange (weighing 15 11)
    heavy = record { path = record { low = omega arith; high = omega arith }; work = omega arith }

nest_weighs : (work_of nest ≡ 27) × (path_of nest ≡ 16)
unfolding work_of path_of
nest_weighs = (refl, refl)

nest_replied : IsNestMeasure row (Ok (weighing 27 16))
unfolding IsNestMeasure
nest_replied = (nest, row_is_nest, sym nest_weighs.0, sym nest_weighs.1)

is_made : whole members ≡ made
unfolding whole ahead sorted_by_from for_each all_arrows each_to_each lasts_of firsts_of passing has_arrow
is_made = refl

pub example_16 : Example16
unfolding Accepts graph_decided dec_finishes via seek dec_some dec_all dec_each dec_among dec_plain dec_first_subtask dec_first_arrow dec_repeats Dec.and Dec.not dec_le dec_lt ℕ_discrete time_of from_of to_of total_work sum weight
example_16 =
    let f : HasWeights fork (weighing 6 5) = has_weights fork.times fork.arrows (3 ∷ 5 ∷ 4 ∷ []) 5 6 tt 2
    (along (alone 1 (subtask_at fork.times 1 tt)) 2 (arrow_at fork.arrows 1 tt)) refl tt refl in
    let m : HasWeights meeting (weighing 15 11) = has_weights meeting.times meeting.arrows (4 ∷ 5 ∷ 11 ∷ []) 11 15 tt 3
    (along (alone 2 (subtask_at meeting.times 2 tt)) 3 (arrow_at meeting.arrows 0 tt)) refl tt refl in
    let w : HasWeights made (weighing 27 16) = has_weights made.times made.arrows (3 ∷ 5 ∷ 4 ∷ 9 ∷ 10 ∷ 16 ∷ 8 ∷ 10 ∷ 9 ∷ []) 16 27 tt 6
    (along (along (along (alone 1 (subtask_at made.times 1 tt)) 2 (arrow_at made.arrows 0 tt)) 5 (arrow_at made.arrows 3 tt))
    6 (arrow_at made.arrows 9 tt)) refl tt refl in
    record {
      is_nest = row_is_nest;
      work = nest_weighs.0;
      path = nest_weighs.1;
      reply = nest_replied;
      carries = carries_graph f (carries_opener (carries_graph m (carries_graph f carries_none)) carries_none);
      whole_is = is_made;
      whole_has = rw is_made w;
    }

-- ---- rows that are the writing of no nest

pub record NoNest : Type 0 where
  pub empty : ¬ SomeNest []
  pub group_outermost : ¬ SomeNest ((2 ∷ 1 ∷ 0 ∷ []) ∷ (0 ∷ 6 ∷ 5 ∷ []) ∷ [])
  pub sequence_in_sequence : ¬ SomeNest ((1 ∷ 1 ∷ 0 ∷ []) ∷ (1 ∷ 1 ∷ 0 ∷ []) ∷ (0 ∷ 6 ∷ 5 ∷ []) ∷ [])
  pub left_over : ¬ SomeNest ((1 ∷ 1 ∷ 0 ∷ []) ∷ (0 ∷ 6 ∷ 5 ∷ []) ∷ (0 ∷ 6 ∷ 5 ∷ []) ∷ [])
  pub missing : ¬ SomeNest ((1 ∷ 2 ∷ 0 ∷ []) ∷ (0 ∷ 6 ∷ 5 ∷ []) ∷ [])
  pub path_above_work : ¬ SomeNest ((1 ∷ 1 ∷ 0 ∷ []) ∷ (0 ∷ 5 ∷ 6 ∷ []) ∷ [])
  pub seventeen : ¬ SomeNest ((1 ∷ 17 ∷ 0 ∷ []) ∷ replicate 17 (0 ∷ 6 ∷ 5 ∷ []))
  pub third_number : ¬ SomeNest ((1 ∷ 1 ∷ 1 ∷ []) ∷ (0 ∷ 6 ∷ 5 ∷ []) ∷ [])

-- the outermost opener, and what stands behind it
opened : (n : Nest) {a b c : ℕ} {xs : List (List ℕ)} → ◌≡◌ {A = List (List ℕ)} ((a ∷ b ∷ c ∷ []) ∷ xs) ((1 ∷ count n ∷ 0 ∷ []) ∷ written n)
    → (a ≡ 1) × (count n ≡ b) × (c ≡ 0) × (written n ≡ xs)
opened n {a} {b} {c} {xs} e =
    let kind : a ≡ 1 = cc in
    let claimed : count n ≡ b = cc in
    let third : c ≡ 0 = cc in
    let follows : written n ≡ xs = cc in
    (kind, claimed, third, follows)

-- a graph's entry in front: the member that it is, and the members behind it
record Front {way : Way} (m : Members Weights way) (k C P : ℕ) (xs : List (List ℕ)) : Type 0 where
  pub rest : Members Weights way
  pub same : m ≡ graph (weighing C P) rest
  pub fewer : count rest ≡ k
  pub follows : written rest ≡ xs

front : {way : Way} (m : Members Weights way) {k C P : ℕ} {xs : List (List ℕ)} → count m ≡ suc k → written m ≡ (0 ∷ C ∷ P ∷ []) ∷ xs → Front m k C P xs
unfolding count written
front none c e = absurd (omega arith)
front (graph w rest) {k} {C} {P} {xs} c e =
    let work : w.c ≡ C = cc in
    let path : w.p ≡ P = cc in
    let follows : written rest ≡ xs = cc in
    record { rest = rest; same = ap₂ (λ (x y : ℕ). graph (weighing x y) rest) work path; fewer = suc_inj c; follows = follows }
front {way = end_to_end} (opener inner rest) c e = absurd (let z : ◌≡◌ {A = ℕ} 2 0 = cc in omega arith)
front {way = side_by_side} (opener inner rest) c e = absurd (let z : ◌≡◌ {A = ℕ} 1 0 = cc in omega arith)

-- entries stand there while a member is to come, and no longer
entries : {way : Way} (m : Members Weights way) → (1 ≤ count m → 1 ≤ length (written m)) × (count m ≡ 0 → length (written m) ≡ 0)
unfolding count written
entries none = (λ l. l, λ e. refl)
entries (graph w rest) = (λ l. omega arith, λ e. absurd (omega arith))
entries (opener inner rest) = (λ l. omega arith, λ e. absurd (omega arith))

-- the openers in a sequence are groups
no_sequence : (n : Nest) {b c : ℕ} {xs : List (List ℕ)} → ¬ (written n ≡ (1 ∷ b ∷ c ∷ []) ∷ xs)
unfolding written
no_sequence none e = let z = ap length e in omega arith
no_sequence (graph w rest) e = let z : ◌≡◌ {A = ℕ} 0 1 = cc in omega arith
no_sequence (opener inner rest) e = let z : ◌≡◌ {A = ℕ} 2 1 = cc in omega arith

pub no_nest : NoNest
unfolding Ruled
no_nest = record {
  empty = λ s. let z = ap length s.is_nest.fills in omega arith;
  group_outermost = λ s. let o = opened s.nest s.is_nest.fills in omega (arith, o.0);
  sequence_in_sequence = λ s. let o = opened s.nest s.is_nest.fills in no_sequence s.nest o.3;
  left_over = λ s.
      let o = opened s.nest s.is_nest.fills in
      let f = front s.nest o.1 o.3 in
      omega (arith, ap length f.follows, (entries f.rest).1 f.fewer);
  missing = λ s.
      let o = opened s.nest s.is_nest.fills in
      let f = front s.nest o.1 o.3 in
      omega (arith, ap length f.follows, (entries f.rest).0 (omega (arith, f.fewer)));
  path_above_work = λ s.
      let o = opened s.nest s.is_nest.fills in
      let f = front s.nest o.1 o.3 in
      heavy f.rest (rw f.same at s.is_nest.ruled);
  seventeen = λ s. let o = opened s.nest s.is_nest.fills in omega (arith, o.1, s.is_nest.members.high);
  third_number = λ s. let o = opened s.nest s.is_nest.fills in omega (arith, o.2);
}
  where
    heavy : (rest : Nest) → ¬ Ruled (graph (weighing 5 6) rest)
    heavy rest r = omega (arith, r.0.path.high)
