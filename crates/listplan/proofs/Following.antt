-- What holds whenever the rule is followed a step further: the invariant of the loop that makes the plan. Assumes nothing.
use Rattle.std.proofs.Common.{List, Bool, Option, ℕ, ◌+◌, ◌≤◌, length}
use Rattle.terms.specs.declared.Entry.{Entry}
use Rattle.terms.specs.declared.Processor.{Processor}
use Rattle.theory.specs.First.{NoneBelow}
use Rattle.listplan.specs.Making.{Making, IsMarked, IsDue, IsFree, FirstOf}

-- `due` is the first processor with an end by t, none before `free` is free, and no place of the order below `low` is marked
pub record Following (times : List ℕ) (arrows : List (List ℕ)) (order : List ℕ) (M t c : ℕ) (L : List ℕ) (R : List Bool) (U W : List ℕ) (P : List Entry) (due : Option Processor) (free low : ℕ) : Type 0 where
  pub making : Making times arrows order M t c L R U W P
  pub unmarked : NoneBelow (IsMarked R) (length order) low
  pub first_due : FirstOf M (IsDue U t) due
  pub free_one : 1 ≤ free
  pub busy : NoneBelow (IsFree W) (M + 1) free
