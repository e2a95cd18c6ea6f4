-- The clock moves to the soonest end; where there is none the plan is made. Assumes nothing.
use Rattle.std.proofs.Common.{◌≡◌, ◌∙◌, ◌≢◌, List, Bool, ℕ, suc, ◌≤◌, ◌<◌, arith, get_or}
use Rattle.std.proofs.Math.Decide.{dec_le, ℕ_discrete}
use Rattle.std.proofs.Math.Logic.{by_cases}
use Rattle.terms.specs.Graphs.{Among, IsSubtask}
use Rattle.terms.specs.Paths.{total_work}
use Rattle.terms.specs.Plans.{processor_of, end_of, Placed, IdleAt}
use Rattle.terms.specs.ListRule.{ByRule, IsListPlan}
use Rattle.terms.specs.declared.Entry.{Entry}
use Rattle.theory.proofs.ListRule.{by_rule, ends_early, still_early}
use Rattle.theory.proofs.Clock.{jump}
use Rattle.forms.specs.Forms.{never}
use Rattle.listplan.specs.Making.{IsJob, Unended, waits, runs, Making, Soonest}
use Rattle.listplan.proofs.Ready.{so_far, in_range, still_there}

module _ {times : List ℕ} {arrows : List (List ℕ)} {order : List ℕ} {M : ℕ} {first next rank : List ℕ} (job : IsJob times arrows order M first next rank)
    {t : ℕ} {L : List ℕ} {R : List Bool} {U W : List ℕ} {P : List Entry} (mk : Making times arrows order M t 0 L R U W P)
    (still : ¬ IdleAt times arrows M P t) {p e : ℕ} (soon : Soonest U M p) (at : e ≡ get_or U p 0) where
  -- what runs on ends no sooner
  no_sooner : (j : ℕ) → IsSubtask times j → Placed P j → t < end_of times P j → e ≤ end_of times P j
  no_sooner j s b l = by_cases (ℕ_discrete (get_or W (processor_of P j) 0) j)
      (λ e. omega (arith, still_there job mk j s one e, soon.least (processor_of P j) (in_range job mk j s one)))
      (λ h. absurd (omega (arith, mk.holders.ended j s (gone h))))
    where
      one : 1 ≤ processor_of P j
      one = omega (arith)

      gone : get_or W (processor_of P j) 0 ≢ j → ¬ Unended P W j
      gone h (waits z) = omega (arith, one)
      gone h (runs z) = h z

  -- by C
  ends_by : (j : ℕ) → IsSubtask times j → Placed P j → end_of times P j ≤ total_work times
  ends_by = ends_early times arrows M job.graph t P job.within.low (so_far job mk)

  module _ (later : (p : ℕ) → Among 1 M p → t < get_or U p 0) (some : e ≢ never) where
    pub ahead : t < e
    ahead = omega (arith, later p soon.within)

    pub no_later : e ≤ total_work times
    no_later =
        let k = get_or W p 0 in
        let somebody : 1 ≤ k = by_cases (dec_le 1 k) (λ l. l) (λ l. absurd (some (at ∙ mk.holders.nobody p soon.within (omega arith)))) in
        let h = mk.holders.holder p soon.within somebody in
        omega (arith, ends_by k h.is_subtask (omega (arith, h.on, soon.within.low)), h.ends)

    pub moved : Making times arrows order M e 0 L R U W P
    moved = record {
      whole = mk.whole;
      early = no_later;
      begun = λ j s. omega (arith, mk.begun j s, ahead);
      made = jump job.graph t e P mk.made still ahead no_sooner;
      holders = record {
        long_until = mk.holders.long_until;
        long_who = mk.holders.long_who;
        nobody = mk.holders.nobody;
        holder = mk.holders.holder;
        ended = λ j s u. omega (arith, mk.holders.ended j s u, ahead);
      };
      lefts = mk.lefts;
      marks = mk.marks;
      cursor = mk.cursor;
      blocked = mk.blocked;
    }

  -- where nobody is on a processor, everything has gone
  pub all_gone : e ≡ never → IsListPlan times arrows order M P
  all_gone none-there = record {
    clock = suc (total_work times);
    made = over;
    all = λ j s. by_cases (dec_le 1 (processor_of P j)) (λ b. b)
        (λ b. absurd (omega (
          arith,
          still_early times arrows M job.graph (suc (total_work times)) P job.within.low
              (by_rule times arrows M job.graph order job.is_order over) j s b,
        )));
  }
    where
      -- nothing ends after t
      over : ByRule times arrows order M (suc (total_work times)) P
      over = jump job.graph t (suc (total_work times)) P mk.made still (omega (arith, mk.early))
          (λ j s b l. absurd (omega (arith, no_sooner j s b l, ends_by j s b, job.work)))
