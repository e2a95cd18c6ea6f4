-- The ways round the loop that makes the plan: each keeps what holds, and leaves less to do. Assumes nothing.
use Rattle.std.proofs.Common.{◌≡◌, refl, ◌∙◌, ◌≢◌, ◌⊎◌, List, map, Bool, false, Option, Some, None, ℕ, ◌+◌, ◌-◌, ◌*◌, ◌≤◌, ◌<◌, arith, length, get_or, set, length-set}
use Rattle.std.proofs.Math.Decide.{dec_le}
use Rattle.std.proofs.Math.Logic.{by_cases}
use Rattle.std.proofs.lemmas.List.{map-set, get_or-map, length-map}
use Rattle.terms.specs.Graphs.{Among, IsSubtask, time_of, to_of}
use Rattle.terms.specs.Paths.{total_work}
use Rattle.terms.specs.Plans.{at, not_placed, processor_of, IdleAt}
use Rattle.terms.specs.ListRule.{put, IsListPlan}
use Rattle.terms.specs.declared.Entry.{Entry}
use Rattle.terms.specs.declared.Processor.{Processor}
use Rattle.theory.specs.First.{NoneBelow, FirstBelow}
use Rattle.theory.proofs.Counting.{noughts, noughts_most, noughts_filled, noughts_emptied}
use Rattle.theory.proofs.Tallies.{tally, tally_set}
use Rattle.forms.specs.Forms.{never}
use Rattle.listplan.specs.Making.{IsJob, Making, IsMarked, IsFree, IsDue, FirstOf, FirstMark, Soonest, CountedOff}
use Rattle.listplan.proofs.Following.{Following}
use Rattle.listplan.proofs.Scans.{soonest_due}
use Rattle.listplan.proofs.Ready.{still}
use Rattle.listplan.proofs.Starting.{started, opened, nobody}
use Rattle.listplan.proofs.Ending.{somebody, who_small, in_who, due_after, ended}
use Rattle.listplan.proofs.CountingOff.{to_subtask, rank_small, left_some, counted}
use Rattle.listplan.proofs.ClockMoves.{ahead, no_later, moved, all_gone}

-- how many subtasks have not gone
unfoldable pub unplaced : List Entry → ℕ
unplaced P = noughts (map (λ (e : Entry). e.processor.0) P)

unplaced_put : (P : List Entry) (j p t : ℕ) → Among 1 (length P) j → processor_of P j ≡ 0 → 1 ≤ p → unplaced (put P j p t) + 1 ≡ unplaced P
unfolding unplaced put processor_of
unplaced_put P j p t a z l =
    let number : Entry → ℕ = λ (e : Entry). e.processor.0 in
    let inside : j - 1 < length P = omega (arith, a.low, a.high) in
    let room : j - 1 < length (map number P) = omega (arith, length-map P number) in
    rw (map-set number P (j - 1) (at p t)) (noughts_filled (map number P) (j - 1) p room (get_or-map number P (j - 1) not_placed 0 inside ∙ z) l)

-- the time up to C, the subtasks that have not gone (each goes and ends), those on a processor, the arrows that are not counted off
unfoldable pub to_do : List ℕ → ℕ → List ℕ → List ℕ → List Entry → ℕ
to_do times t L W P = (total_work times - t) + 2 * unplaced P + (17 - noughts W) + tally (λ x. x) L (length times)

-- ---- the ways round

module _ {times : List ℕ} {arrows : List (List ℕ)} {order : List ℕ} {M : ℕ} {first next rank : List ℕ} {t c : ℕ} {L : List ℕ} {R : List Bool} {U W : List ℕ} {P : List Entry}
    {due : Option Processor} {free low : ℕ} (job : IsJob times arrows order M first next rank)
    (now : Following times arrows order M t c L R U W P due free low) where
  -- an arrow is counted off
  module _ (some : c ≢ 0) where
    abbrev j : ℕ
    j = to_of arrows (c - 1)

    s : IsSubtask times j
    s = to_subtask job now.making some

    pub arrow_fits : (c ≤ 2048) × (j < 257) × (1 ≤ get_or L j 0) × (get_or rank j 0 < 256)
    arrow_fits = (
      omega (arith, now.making.cursor.within, job.graph.few),
      omega (arith, s.high, job.graph.count.high),
      left_some job now.making some,
      rank_small job now.making some,
    )

    pub step_counted : {c' low' : ℕ} {L' : List ℕ} {R' : List Bool} → c' ≡ get_or next (c - 1) 0 → CountedOff arrows rank L R L' R' (c - 1) low low'
        → Following times arrows order M t c' L' R' U W P due free low' × (to_do times t L' W P < to_do times t L W P)
    unfolding to_do
    step_counted {L' = L'} e off =
        let r = counted job now.making some e off now.unmarked in
        let sum : tally (λ x. x) L' (length times) + get_or L j 0 ≡ tally (λ x. x) L (length times) + (get_or L j 0 - 1) =
        rw off.fewer (tally_set (λ x. x) L j _ (length times) s (omega (arith, now.making.lefts.long, arrow_fits.1))) in (
          record {
            making = r.0;
            unmarked = r.1;
            first_due = now.first_due;
            free_one = now.free_one;
            busy = now.busy;
          },
          omega (arith, arrow_fits.2, sum),
        )

  -- a subtask ends
  module _ {p : Processor} (none : c ≡ 0) (is : due ≡ Some p) where
    mk : Making times arrows order M t 0 L R U W P
    mk = rw none at now.making

    first_of : FirstOf M (IsDue U t) (Some p)
    first_of = rw is at now.first_due

    on : Among 1 M p.0
    unfolding FirstOf
    on = first_of.0

    first_below : FirstBelow (IsDue U t) (M + 1) p.0
    unfolding FirstOf
    first_below = first_of.1

    by_now : get_or U p.0 0 ≤ t
    by_now = (first_below.here (omega (arith, on.high))).by

    pub holder_fits : (p.0 < 17) × (get_or W p.0 0 < 257)
    holder_fits = (omega (arith, on.high, job.within.high), who_small job mk on by_now)

    pub next_due : NoneBelow (IsDue (set U p.0 never) t) (M + 1) (p.0 + 1)
    next_due = due_after job mk on by_now first_below

    pub step_ended : {c' : ℕ} {due' : Option Processor} {U' W' : List ℕ} → c' ≡ get_or first (get_or W p.0 0) 0
        → (U' ≡ set U p.0 never) × (W' ≡ set W p.0 0) → FirstOf M (IsDue U' t) due'
        → Following times arrows order M t c' L R U' W' P due' 1 low × (to_do times t L W' P < to_do times t L W P)
    unfolding to_do
    step_ended {due' = due'} e tables d =
        let n = noughts_emptied W p.0 (in_who job mk on by_now) (somebody job mk on by_now) in
        let d' : FirstOf M (IsDue (set U p.0 never) t) due' = rw tables.0 at d in
        rw (tables.0, tables.1) (
          ended job mk on by_now e now.unmarked d',
          omega (arith, n, noughts_most (set W p.0 0), length-set W p.0 0, mk.holders.long_who),
        )

  -- none ends
  module _ (none : c ≡ 0) (over : due ≡ None) where
    mk₀ : Making times arrows order M t 0 L R U W P
    mk₀ = rw none at now.making

    later : (q : ℕ) → Among 1 M q → t < get_or U q 0
    unfolding FirstOf
    later q a =
        let no_due = rw over at now.first_due in
        by_cases (dec_le (get_or U q 0) t) (λ l. absurd (no_due.none q (omega (arith, a.high)) (record { one = a.low; by = l }))) (λ l. omega arith)

    -- a subtask starts
    module _ (x : ℕ) (p : Processor) (mark : FirstMark R (length order) (Some x)) (free_one : FirstOf M (IsFree W) (Some p)) where
      inside : x < length order
      unfolding FirstMark
      inside = mark.0

      first_mark : FirstBelow (IsMarked R) (length order) x
      unfolding FirstMark
      first_mark = mark.1

      pm : Among 1 M p.0
      unfolding FirstOf
      pm = free_one.0

      first_free : FirstBelow (IsFree W) (M + 1) p.0
      unfolding FirstOf
      first_free = free_one.1

      -- it is in the table, and the mark that is taken off is the first one
      pub starter_fits : (p.0 < 17) × (x < 256) × NoneBelow (IsMarked R) 256 x
      starter_fits =
          let l : x < 256 = omega (arith, inside, job.is_order.whole, job.graph.count.high) in
          (omega (arith, pm.high, job.within.high), l, record { within = omega arith; none = first_mark.before.none })

      pub starter : {j : ℕ} → j ≡ get_or order x 0 → IsSubtask times j
      starter e = rw e (job.is_order.each x inside)

      pub step_started : {j : ℕ} {R' : List Bool} {P' : List Entry} {U' W' : List ℕ} → j ≡ get_or order x 0 → R' ≡ set R x false
          → P' ≡ put P j p.0 t → (U' ≡ set U p.0 (t + time_of times j)) × (W' ≡ set W p.0 j)
          → Following times arrows order M t c L R' U' W' P' due p.0 (x + 1) × (to_do times t L W' P' < to_do times t L W P)
      unfolding to_do
      step_started {j} e unmarked put_there (until, who) =
          let s : IsSubtask times j = starter e in
          let o = opened job mk₀ later first_mark first_free inside pm e in
          let f = nobody job mk₀ later first_mark first_free inside pm e in
          let np = unplaced_put P j p.0 t (record { low = s.low; high = omega (arith, s.high, mk₀.whole) }) o.unplaced pm.low in
          let nw = noughts_filled W p.0 j (omega (arith, mk₀.holders.long_who, job.within.high, pm.high)) f.nobody s.low in
          rw (unmarked, put_there, until, who, none)
          (started job mk₀ later first_mark first_free inside pm e over, omega (arith, np, nw, noughts_most W, mk₀.holders.long_who))

    -- the clock moves, or all is over
    module _ (nothing : FirstMark R (length order) None ⊎ FirstOf M (IsFree W) None) {p : Processor} {e : ℕ} (soon : Soonest U M p.0) (end : e ≡ get_or U p.0 0) where
      quiet : ¬ IdleAt times arrows M P t
      quiet = still job mk₀ later refl nothing

      pub step_moved : e ≢ never → Following times arrows order M e c L R U W P (Some p) free low × (to_do times e L W P < to_do times t L W P)
      unfolding to_do FirstOf
      step_moved d = rw none (
        record {
          making = moved job mk₀ quiet soon end later d;
          unmarked = now.unmarked;
          first_due = (soon.within, rw end (soonest_due soon));
          free_one = now.free_one;
          busy = now.busy;
        },
        omega (arith, ahead job mk₀ quiet soon end later d, no_later job mk₀ quiet soon end later d),
      )

      pub finished : e ≡ never → IsListPlan times arrows order M P
      finished z = all_gone job mk₀ quiet soon end z
