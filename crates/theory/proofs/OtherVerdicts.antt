-- Demand 3 asked of verdicts of any kind: ours passes, "always fits" and "the list plan ends by D" do not; and the worked alteration of G.
-- Assumes nothing.
use Rattle.std.proofs.Common.{refl, List, ℕ, ◌≤◌, arith, take}
use Rattle.terms.specs.Replies.{IsAnswer, IsChecked}
use Rattle.terms.specs.Alterations.{Altered, SaysFits}
use Rattle.terms.specs.declared.Entry.{Entry}
use Rattle.terms.specs.declared.Answer.{Answer}
use Rattle.terms.proofs.Examples.{times_g, arrows_g, order_g, shorter_g, fewer_g, ListPlanEnds, examples}
use Rattle.terms.proofs.AlteredG.{altered_G, dropped_G}
use Rattle.theory.specs.Sound.{SoundGraph}
use Rattle.theory.proofs.Accepted.{sound_graph}
use Rattle.theory.proofs.Dropping.{dropped_altered}
use Rattle.theory.proofs.ListPlans.{listed_checked}
use Rattle.theory.proofs.DemandThree.{InTime, demand_three}
use Rattle.std.specs.Prelude.{Ok}

-- where a verdict says "fits" of a graph on M processors against D, every accepted plan of an altered graph ends by D
abbrev pub GoesOn : (List ℕ → List (List ℕ) → ℕ → ℕ → Type 0) → Type 0
GoesOn SaysSo = (times times' : List ℕ) (arrows arrows' : List (List ℕ)) (M M' D E : ℕ) (plan : List Entry)
    → SaysSo times arrows M D → Altered times arrows M times' arrows' M' → IsChecked times' arrows' M' plan (Ok E) → E ≤ D

pub our_verdict_goes_on : GoesOn (λ times arrows M D. (answer : Answer) × IsAnswer times arrows M D answer × SaysFits answer)
our_verdict_goes_on times times' arrows arrows' M M' D E plan (answer, is, says) altered checked =
    (demand_three times arrows M D answer times' arrows' M' is says altered).ends plan E checked

-- a graph is an altered one of itself
itself : {times : List ℕ} {arrows : List (List ℕ)} {M : ℕ} → SoundGraph times arrows → M ≤ 16 → Altered times arrows M times arrows M
itself g l = record {
  same = refl;
  shorter = λ j s. record { low = g.positive j s; high = omega arith };
  kept = λ i j w. w;
  once = λ b l r. g.once r.earlier b r.before l (r.same_from, r.same_to);
  wider = record { low = omega arith; high = l };
}

-- always "fits": G on 3 processors against D = 1, where the list plan is accepted and ends at 12
pub always_fits_ends_late : ¬ GoesOn (λ times arrows M D. Unit {0})
always_fits_ends_late goes_on =
    let listed = examples.one.1 in
    let g = sound_graph times_g arrows_g examples.one.0.accepted in
    let e : 12 ≤ 1 =
    goes_on times_g times_g arrows_g arrows_g 3 3 1 12 (take 9 listed.0) tt (itself g (omega arith))
    (listed_checked times_g arrows_g 3 order_g _ listed.0 12 listed.1) in
    omega (arith, e)

-- "the list plan ends by D": that of G ends at 12, that of G without 4→5 and 4→6 at 16
pub plan_end_is_no_verdict : ¬ GoesOn (λ times arrows M D. ListPlanEnds times arrows order_g M D)
plan_end_is_no_verdict goes_on =
    let listed = examples.four in
    let g = sound_graph times_g arrows_g examples.one.0.accepted in
    let altered : Altered times_g arrows_g 3 times_g fewer_g 3 =
    dropped_altered dropped_G g refl (λ j s. record { low = g.positive j s; high = omega arith }) (record { low = omega arith; high = omega arith }) in
    let e : 16 ≤ 12 =
    goes_on times_g times_g arrows_g fewer_g 3 3 12 16 (take 9 listed.0) examples.one.1 altered
    (listed_checked times_g fewer_g 3 order_g _ listed.0 16 listed.1) in
    omega (arith, e)

-- example 5: G on 3 processors fits 19; so G with every time shorter by 1, without 4→5 and 4→6, on 4 processors goes on fitting 19
pub altered_G_in_time : InTime shorter_g fewer_g 4 19
altered_G_in_time = demand_three times_g arrows_g 3 19 _ shorter_g fewer_g 4 examples.five.1 (0, refl) altered_G
