-- Whether every arrow goes from one subtask to another, arrow by arrow. Assumes nothing.
use Rattle.std.proofs.Common.{ℕ, ◌+◌, Bool, true, false, List, [], get_or, arith, ◌&&◌, below_more}
use Rattle.terms.specs.Graphs.{from_of, to_of}
use Rattle.theory.specs.Flags.{Says}
use Rattle.graph.specs.Scans.{TwoOf, AllJoin}

module _ (n : ℕ) (arrows : List (List ℕ)) (b : ℕ) where
  pub join_more : (all two : Bool) → AllJoin n arrows b all → Says (TwoOf n (get_or (get_or arrows b []) 0 0) (get_or (get_or arrows b []) 1 0)) two
      → AllJoin n arrows (b + 1) (all && two)
  unfolding from_of to_of
  join_more true true before two = below_more (λ a. TwoOf n (from_of arrows a) (to_of arrows a)) b before two
  join_more true false before bad = (b, omega arith, bad)
  join_more false two (a, l, bad) _ = (a, omega (arith, l), bad)
