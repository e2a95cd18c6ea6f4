-- The list plan over the promises: there is one for every accepted input, it is accepted, and the plan check replies its end. Assumes nothing.
use Rattle.std.proofs.Common.{◌≡◌, List, ◌++◌, ℕ, ◌≤◌, length, take, drop}
use Rattle.std.proofs.Math.Seq.{take-append_seam, drop-append_seam}
use Rattle.terms.specs.Rows.{Accepted}
use Rattle.terms.specs.Graphs.{Among, IsSubtask, In16Bits}
use Rattle.terms.specs.Plans.{start_of}
use Rattle.terms.specs.ListRule.{IsOrder, IsListPlan}
use Rattle.terms.specs.Refusals.{graph_rows, list_rows, check_rows}
use Rattle.terms.specs.Replies.{IsListed, IsChecked}
use Rattle.terms.specs.declared.Entry.{Entry}
use Rattle.theory.proofs.Accepted.{sound_graph, accepted_graph, accepted_plan, sound_list}
use Rattle.theory.proofs.Work.{total_small}
use Rattle.theory.proofs.Ends.{ends}
use Rattle.theory.proofs.ListRule.{by_rule, list_busy}
use Rattle.theory.proofs.ListExists.{list_exists}
use Rattle.std.specs.Prelude.{Ok}

-- a row of a front and a rest, at the seam
seam : (front rest : List Entry) (n : ℕ) → length front ≡ n → (take n (front ++ rest) ≡ front) × (drop n (front ++ rest) ≡ rest)
seam front rest n e = rw (← e) (take-append_seam front rest, drop-append_seam front rest)

module _ (times : List ℕ) (arrows : List (List ℕ)) (M : ℕ) (order : List ℕ) where
  -- every plan of the rule is accepted
  pub list_plan_accepted : (plan : List Entry) → Accepted (graph_rows times arrows) → In16Bits times → Among 1 16 M → IsOrder times order
      → IsListPlan times arrows order M plan
      → Accepted (check_rows times arrows M plan)
  list_plan_accepted plan a bits m o p =
      let g = sound_graph times arrows a in
      accepted_plan times arrows M plan g (list_busy times arrows M g order plan o m (total_small g bits) p)

  -- and there is one, with every start in range
  pub list_plan_exists : Accepted (graph_rows times arrows) → In16Bits times → Among 1 16 M → IsOrder times order
      → (plan : List Entry) × IsListPlan times arrows order M plan × Accepted (check_rows times arrows M plan) ×
      ((j : ℕ) → IsSubtask times j → start_of plan j ≤ 16776960)
  list_plan_exists a bits m o =
      let g = sound_graph times arrows a in
      let p = list_exists times arrows order M o g m.low in
      let b = list_busy times arrows M g order p.0 o m (total_small g bits) p.1 in
      (p.0, p.1, accepted_plan times arrows M p.0 g b, b.sound.starts)

  -- so the list plan has a reply that ends, and a row to leave, for every input that it accepts
  pub listed_exists : (before : List Entry) → In16Bits times → Accepted (list_rows times arrows M order (length before))
      → (after : List Entry) × (E : ℕ) × IsListed times arrows M order before after (Ok E)
  unfolding IsListed IsChecked
  listed_exists before bits a =
      let s = sound_list times arrows M order (length before) a in
      let p = list_plan_exists (accepted_graph times arrows s.0) bits s.1 s.2 in
      let e = ends times p.0 s.0.count.low in
      let cut = seam p.0 (drop (length times) before) (length times) (by_rule times arrows M s.0 order s.2 p.1.made).whole in
      (p.0 ++ drop (length times) before, e.0, (a, record { plan = rw cut.0 p.1; past = cut.1; checked = rw cut.0 (p.2, e.1) }))

  -- where the list plan replies E, the plan check replies E for what it left in the row
  pub listed_checked : (before after : List Entry) (E : ℕ) → IsListed times arrows M order before after (Ok E)
      → IsChecked times arrows M (take (length times) after) (Ok E)
  unfolding IsListed
  listed_checked before after E (a, h) = h.checked
