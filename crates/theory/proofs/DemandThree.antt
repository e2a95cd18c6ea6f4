-- Demand 3: where the verdict is "fits", no alteration makes the verdict "late" or an accepted plan end after D. Assumes nothing.
use Rattle.std.proofs.Common.{◌≡◌, refl, List, ℕ, ◌-◌, ◌≤◌, arith, length, take}
use Rattle.terms.specs.Rows.{Accepted}
use Rattle.terms.specs.Graphs.{Among, IsSubtask, time_of}
use Rattle.terms.specs.Paths.{total_work, IsLongest}
use Rattle.terms.specs.Verdicts.{bound, sure_end, IsVerdict, load_of}
use Rattle.terms.specs.Refusals.{graph_rows, verdict_rows}
use Rattle.terms.specs.Replies.{IsOutcome, IsAnswer, IsListed, IsChecked}
use Rattle.terms.specs.Alterations.{Altered, Dropped, SaysFits}
use Rattle.terms.specs.declared.Entry.{Entry}
use Rattle.terms.specs.declared.Figures.{Figures}
use Rattle.terms.specs.declared.Answer.{Answer}
use Rattle.terms.specs.declared.Verdict.TheVariants.{Fits}
use Rattle.theory.proofs.Accepted.{accepted_graph, sound_verdict, accepted_verdict}
use Rattle.theory.proofs.Longest.{longest_exists}
use Rattle.theory.proofs.Graham.{ends_by_sure_end}
use Rattle.theory.proofs.ListPlans.{listed_checked}
use Rattle.theory.proofs.OneReply.{one_judged}
use Rattle.theory.proofs.Alterations.{altered_sound, end_no_later}
use Rattle.theory.proofs.Dropping.{dropped_altered}
use Rattle.std.specs.Prelude.{Ok}

-- what demand 3 promises of a graph on M processors with deadline D
pub record InTime (times : List ℕ) (arrows : List (List ℕ)) (M D : ℕ) : Type 0 where
  -- the graph is accepted, and so is the question
  pub accepted : Accepted (graph_rows times arrows)
  pub asked : Accepted (verdict_rows times arrows M D)
  -- there is an answer, and every answer says "fits"
  pub answered : (answer : Answer) × IsAnswer times arrows M D answer
  pub fits : (answer : Answer) → IsAnswer times arrows M D answer → SaysFits answer
  -- every accepted plan ends by D
  pub ends : (plan : List Entry) (E : ℕ) → IsChecked times arrows M plan (Ok E) → E ≤ D

-- "fits" says that the sure end is D or before
fits_end : (times : List ℕ) (arrows : List (List ℕ)) (M D : ℕ) (figures : Figures) (spare : ℕ) → IsOutcome times arrows M D figures (Ok (Fits spare))
    → Accepted (verdict_rows times arrows M D) × ((P : ℕ) × IsLongest times arrows P × (sure_end (bound (total_work times) P M) M ≤ D))
unfolding IsOutcome IsVerdict
fits_end times arrows M D figures spare (a, f, v) =
    (a, (figures.p, f.path, rw (f.sum, f.work) at v.0))

-- and where it is, there is an answer, which says "fits"
end_fits : (times : List ℕ) (arrows : List (List ℕ)) (M D P : ℕ) → Accepted (verdict_rows times arrows M D) → IsLongest times arrows P
    → sure_end (bound (total_work times) P M) M ≤ D
    → (answer : Answer) × IsAnswer times arrows M D answer × SaysFits answer
unfolding IsOutcome IsVerdict
end_fits times arrows M D P a l f = (
  record {
    figures = record { c = total_work times; p = P; s = bound (total_work times) P M; load = load_of (total_work times) M D };
    outcome = Ok (Fits (D - sure_end (bound (total_work times) P M) M));
  },
  (a, record { work = refl; path = l; sum = refl; load_is = refl }, (f, refl)),
  (D - sure_end (bound (total_work times) P M) M, refl),
)

pub demand_three : (times : List ℕ) (arrows : List (List ℕ)) (M D : ℕ) (answer : Answer) (times' : List ℕ) (arrows' : List (List ℕ)) (M' : ℕ)
    → IsAnswer times arrows M D answer → SaysFits answer → Altered times arrows M times' arrows' M' → InTime times' arrows' M' D
demand_three times arrows M D answer times' arrows' M' is says altered =
    let old = fits_end times arrows M D answer.figures says.0 (rw says.1 at is) in
    let asked = sound_verdict times arrows M D old.0 in
    let g = altered_sound asked.0 altered in
    let long = longest_exists g in
    let f : sure_end (bound (total_work times') long.0 M') M' ≤ D =
    omega (arith, end_no_later asked.0 altered old.1.0 long.0 asked.1.low old.1.1 long.1, old.1.2) in
    let m : Among 1 16 M' = record { low = omega (arith, asked.1.low, altered.wider.low); high = altered.wider.high } in
    let a = accepted_verdict times' arrows' M' D g m asked.2 in
    let found = end_fits times' arrows' M' D long.0 a long.1 f in
    record {
      accepted = accepted_graph times' arrows' g;
      asked = a;
      answered = (found.0, found.1);
      fits = λ other h. rw (one_judged times' arrows' M' D found.0 other found.1 h) at found.2;
      ends = λ plan E c. omega (arith, ends_by_sure_end times' arrows' M' plan E long.0 c long.1, f);
    }

-- the same of a row with some arrows dropped
pub demand_three_dropped : (times : List ℕ) (arrows : List (List ℕ)) (M D : ℕ) (answer : Answer) (times' : List ℕ) (arrows' : List (List ℕ)) (M' : ℕ)
    → IsAnswer times arrows M D answer → SaysFits answer
    → length times' ≡ length times → ((j : ℕ) → IsSubtask times j → Among 1 (time_of times j) (time_of times' j)) → Dropped arrows arrows' → Among M 16 M'
    → InTime times' arrows' M' D
demand_three_dropped times arrows M D answer times' arrows' M' is says same shorter dropped wider =
    let old = fits_end times arrows M D answer.figures says.0 (rw says.1 at is) in
    let g = (sound_verdict times arrows M D old.0).0 in
    demand_three times arrows M D answer times' arrows' M' is says (dropped_altered dropped g same shorter wider)

-- and the list plan, which is an accepted one, ends by D too
pub list_plan_in_time : (times : List ℕ) (arrows : List (List ℕ)) (M D : ℕ) (order : List ℕ) (before after : List Entry) (E : ℕ) → InTime times arrows M D
    → IsListed times arrows M order before after (Ok E) → E ≤ D
list_plan_in_time times arrows M D order before after E t h = t.ends (take (length times) after) E (listed_checked times arrows M order before after E h)
