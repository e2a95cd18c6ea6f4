-- Where a row of the table holds there is a place that goes with it, and a refusal that says so; that there is no second one is `one_refusal`.
-- Assumes nothing.
use Rattle.std.proofs.Common.{◌≡◌, refl, sym, ◌∙◌, ◌⊎◌, inl, inr, List, [], ◌∷◌, ◌++◌, ℕ, suc, ◌<◌, arith}
use mathlib.Core.Logic.Dec
use Rattle.std.proofs.Math.Decide.{dec_lt, ℕ_discrete}
use Rattle.terms.specs.Rows.{Smallest, Spot, smallest, pair, IsAt, Row, row, Gives}
use Rattle.terms.specs.Graphs.{Among, time_of, from_of, to_of, LeadsTo}
use Rattle.terms.specs.Plans.{processor_of, start_of, IdleAt}
use Rattle.terms.specs.Refusals.{NamesOutside, Repeats, StartsEarly, Share, first_arrow, lowest, count_rows, time_rows, subtask_rows, size_rows, arrow_rows, graph_rows, named_rows, time_and_arrow_rows}
use Rattle.terms.specs.Refusals.{processor_rows, on_rows, deadline_rows, order_rows, plan_rows, verdict_rows, list_rows, check_rows, arrange_rows, write_rows}
use Rattle.terms.specs.Refusals.{join_rows, nest_rows}
use Rattle.terms.specs.Joins.{Graph}
use Rattle.terms.specs.declared.Entry.{Entry}
use Rattle.terms.specs.declared.Refusal.{Refusal}
use Rattle.terms.specs.declared.Refusal.TheVariants.{SubtaskCount, TimeZero, ArrowCount, ArrowOutside, ArrowToItself, ArrowTwice, Cycle, ProcessorCount, Deadline, Order, Room, PlanLength, ProcessorOutside, StartLarge, StartEarly, Overlap, Idle, JoinedSubtasks, JoinedArrows, Nest}
use Rattle.terms.proofs.Decide.{Least, seek, dec_among, dec_repeats, dec_idle, dec_starts_early, share_turned, dec_share}
use Rattle.terms.proofs.Decisions.{Decision, holds_at, never, Tells, told, gives as gives_at, dec_first_subtask, dec_first_arrow, dec_smallest_pair}
use Rattle.theory.proofs.Reaching.{dec_leads}

-- wherever such a spot is, a refusal of number k says so
pub record HasRefusal (k : ℕ) (spot : Spot) : Type 0 where
  pub tells : (place second : ℕ) → IsAt spot place second → (a : Refusal) × Tells a k place second

pub record HasPlace (row : Row) : Type 0 where
  pub place_of : row.holds → (place : ℕ) × (second : ℕ) × IsAt row.spot place second
  pub refusal : HasRefusal row.number row.spot

-- each of the rows
pub data HavePlaces : List Row → Type 1 where
  none : HavePlaces []
  and : {first : Row} {rows : List Row} → HasPlace first → HavePlaces rows → HavePlaces (first ∷ rows)

-- a row that holds gives a refusal
pub gives : {row : Row} → HasPlace row → row.holds → (a : Refusal) × Gives row a
gives has h =
    let s = has.place_of h in
    let t = has.refusal.tells s.0 s.1 s.2 in
    (t.0, gives_at t.0 h s.2 t.1)

-- of these rows each one that holds gives a refusal
pub data EachGives : List Row → Type 1 where
  none : EachGives []
  and : {first : Row} {rows : List Row} → (first.holds → (a : Refusal) × Gives first a) → EachGives rows → EachGives (first ∷ rows)

pub each : {rows : List Row} → HavePlaces rows → EachGives rows
each none = none
each (and has later) = and (gives has) (each later)

-- ---- a row of each kind

plain : {k : ℕ} {C : Type 0} (a : Refusal) → Tells a k 0 0 → HasPlace (row k C)
unfolding IsAt
plain a t = record {
  place_of = λ h. (0, 0, (refl, refl));
  refusal = record {
    tells = λ place second s. (a, record { number_is = t.number_is; place_is = t.place_is ∙ sym s.0; second_is = t.second_is ∙ sym s.1 });
  };
}

-- a kind of refusal for one place, and for two
of_one : {k : ℕ} {IsSo : ℕ → Type 0} (kind : ℕ → Refusal) → ((place : ℕ) → Tells (kind place) k place 0) → HasRefusal k (smallest IsSo)
unfolding IsAt
of_one kind t = record { tells = λ place second s. (kind place, rw s.1 (t place)) }

of_two : {k : ℕ} {AreSo : ℕ → ℕ → Type 0} (kind : ℕ → ℕ → Refusal) → ((lower higher : ℕ) → Tells (kind lower higher) k lower higher)
    → HasRefusal k (pair AreSo)
of_two kind t = record { tells = λ lower higher s. (kind lower higher, t lower higher) }

decided : {first : Row} → Decision first → HasRefusal first.number first.spot → HasPlace first
decided (holds_at place second h s) r = record { place_of = λ x. (place, second, s); refusal = r }
decided (never n) r = record { place_of = λ x. absurd (n x); refusal = r }

least : (k : ℕ) (IsSo : ℕ → Type 0) → ((x : ℕ) → Dec (IsSo x)) → HasRefusal k (smallest IsSo) → HasPlace (lowest k IsSo)
unfolding IsAt
least k IsSo dec r = record {
  place_of = λ x. let s = smallest_of x.0 x.1 (seek (suc x.0) IsSo dec) in (s.0, 0, (s.1, refl));
  refusal = r;
}
  where
    smallest_of : (x : ℕ) → IsSo x → Least (suc x) IsSo ⊎ ((u : ℕ) → u < suc x → ¬ IsSo u) → (y : ℕ) × Smallest IsSo y
    smallest_of x h (inl s) = (s.place, record { is_so = s.holds; least = s.before })
    smallest_of x h (inr n) = absurd (n x (omega arith) h)

-- ---- the tables

then : {rows later : List Row} → HavePlaces rows → HavePlaces later → HavePlaces (rows ++ later)
then none y = y
then (and h x) y = and h (then x y)

module _ (times : List ℕ) (arrows : List (List ℕ)) where
  outside_place : HasPlace (first_arrow 4 arrows (NamesOutside times arrows))
  outside_place = decided (dec_first_arrow 4 arrows (NamesOutside times arrows) (λ a. Dec.not (Dec.and (dec_among _ _ _) (dec_among _ _ _)))) (of_one ArrowOutside (λ p. told))

  time_places : HavePlaces (time_rows times)
  unfolding time_rows
  time_places = and (decided (dec_first_subtask 2 times (λ j. time_of times j ≡ 0) (λ j. ℕ_discrete _ _)) (of_one TimeZero (λ p. told))) none

  subtask_places : HavePlaces (subtask_rows times)
  unfolding subtask_rows count_rows
  subtask_places = and (plain SubtaskCount told) time_places

  size_places : HavePlaces (size_rows arrows)
  unfolding size_rows
  size_places = and (plain ArrowCount told) none

  arrow_places : HavePlaces (arrow_rows times arrows)
  unfolding arrow_rows
  arrow_places =
      and outside_place
      (and (decided (dec_first_arrow 5 arrows (λ a. from_of arrows a ≡ to_of arrows a) (λ a. ℕ_discrete _ _)) (of_one ArrowToItself (λ p. told)))
      (and (decided (dec_first_arrow 6 arrows (Repeats arrows) (dec_repeats arrows)) (of_one ArrowTwice (λ p. told)))
      (and (least 7 (λ j. LeadsTo arrows j j) (λ j. dec_leads arrows j j) (of_one Cycle (λ p. told))) none)))

  pub graph_places : HavePlaces (graph_rows times arrows)
  unfolding graph_rows
  graph_places = then subtask_places (then size_places arrow_places)

  pub read_places : HavePlaces (time_and_arrow_rows times arrows)
  unfolding time_and_arrow_rows
  read_places = then time_places (then size_places arrow_places)

  pub arrange_places : (begins numbers : ℕ) → HavePlaces (arrange_rows times arrows begins numbers)
  unfolding arrange_rows named_rows
  arrange_places begins numbers = then (then subtask_places (then size_places (and outside_place none))) (and (plain Room told) none)

  pub write_places : (room : ℕ) → HavePlaces (write_rows times arrows room)
  unfolding write_rows
  write_places room = then graph_places (and (plain Room told) none)

  module _ (M : ℕ) where
    on_places : HavePlaces (on_rows times arrows M)
    unfolding on_rows processor_rows
    on_places = then graph_places (and (plain ProcessorCount told) none)

    pub verdict_places : (D : ℕ) → HavePlaces (verdict_rows times arrows M D)
    unfolding verdict_rows deadline_rows
    verdict_places D = then on_places (and (plain Deadline told) none)

    pub list_places : (order : List ℕ) (room : ℕ) → HavePlaces (list_rows times arrows M order room)
    unfolding list_rows order_rows
    list_places order room = then on_places (and (plain Order told) (and (plain Room told) none))

    pub check_places : (plan : List Entry) → HavePlaces (check_rows times arrows M plan)
    unfolding check_rows plan_rows
    check_places plan =
        then on_places
        (and (plain PlanLength told)
        (and (decided (dec_first_subtask 13 times (λ j. ¬ Among 1 M (processor_of plan j)) (λ j. Dec.not (dec_among _ _ _))) (of_one ProcessorOutside (λ p. told)))
        (and (decided (dec_first_subtask 14 times (λ j. 16776960 < start_of plan j) (λ j. dec_lt _ _)) (of_one StartLarge (λ p. told)))
        (and (decided (dec_first_subtask 15 times (StartsEarly times arrows plan) (dec_starts_early times arrows plan)) (of_one StartEarly (λ p. told)))
        (and (decided (dec_smallest_pair 16 times (Share times plan) share_turned (λ i j s. s.two) (dec_share times plan)) (of_two Overlap (λ p q. told)))
        (and (least 17 (IdleAt times arrows M plan) (dec_idle times arrows M plan) (of_one Idle (λ p. told))) none))))))

pub join_places : (a b g : Graph) (times arrows : ℕ) → HavePlaces (join_rows a b g times arrows)
unfolding join_rows
join_places a b g times arrows = then (graph_places a.times a.arrows) (then (graph_places b.times b.arrows) (and (plain JoinedSubtasks told) (and (plain JoinedArrows told) (and (plain Room told) none))))

pub nest_places : (entries : List (List ℕ)) → HavePlaces (nest_rows entries)
unfolding nest_rows
nest_places entries = and (plain Nest told) none
