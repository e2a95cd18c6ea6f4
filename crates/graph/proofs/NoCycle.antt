-- In a row with predecessors first no subtask is on a cycle. Assumes nothing.
use Rattle.std.proofs.Common.{◌≡◌, sym, ◌∙◌, List, ℕ, ◌<◌, arith, length, get_or}
use Rattle.terms.specs.Graphs.{Among, from_of, to_of, LeadsTo, step, more}
use Rattle.graph.specs.Chains.{Tidy}
use Rattle.graph.specs.Ordered.{StandsBelow, Ordered}

-- what leads somewhere leads to one of 1..n
pub leads_to_subtask : {n : ℕ} {arrows : List (List ℕ)} {i j : ℕ} → Tidy n arrows → LeadsTo arrows i j → Among 1 n j
leads_to_subtask tidy (step a) = rw a.arrives at (tidy.to_in a.place a.inside)
leads_to_subtask tidy (more p a) = rw a.arrives at (tidy.to_in a.place a.inside)

-- the first m entries of a row, each once, predecessors first
module _ {arrows : List (List ℕ)} {row : List ℕ} (m : ℕ) (once : (i j : ℕ) → i < j → j < m → ¬ (get_or row i 0 ≡ get_or row j 0))
    (first : (k : ℕ) → k < length arrows → (j : ℕ) → j < m → get_or row j 0 ≡ to_of arrows k → StandsBelow row j (from_of arrows k)) where
  -- what leads to an entry stands before it
  stands_before : {i j : ℕ} → LeadsTo arrows i j → (at : ℕ) → at < m → get_or row at 0 ≡ j → StandsBelow row at i
  stands_before (step a) at l e = rw a.begins at (first a.place a.inside at l (e ∙ sym a.arrives))
  stands_before (more p a) at l e =
      let s = first a.place a.inside at l (e ∙ sym a.arrives) in
      let t = stands_before p s.place (omega (arith, s.below, l)) (s.is ∙ a.begins) in
      record { place = t.place; below = omega (arith, t.below, s.below); is = t.is }

  -- so none of them is on a cycle
  pub on_no_cycle : {j : ℕ} → StandsBelow row m j → ¬ LeadsTo arrows j j
  on_no_cycle s p =
      let t = stands_before p s.place s.below s.is in
      once t.place s.place t.below s.below (t.is ∙ sym s.is)

pub no_cycle : {n : ℕ} {arrows : List (List ℕ)} {row : List ℕ} → Ordered n arrows row → Tidy n arrows → (j : ℕ) → ¬ LeadsTo arrows j j
no_cycle {n} o tidy j p = on_no_cycle n o.once o.first (o.each j (leads_to_subtask tidy p)) p
