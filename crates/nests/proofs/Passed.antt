-- How an opener's members are passed one by one, along either way. Assumes nothing.
use Rattle.std.proofs.Common.{◌≡◌, sym, ◌∙◌, ℕ, ◌+◌, ◌-◌, ◌≤◌, ◌<◌, List, length, arith, Some, None, ⊎_elim}
use Rattle.terms.specs.Joins.{Way}
use Rattle.terms.specs.Nests.{other, together, kind_of}
use Rattle.theory.proofs.OneNest.{same_opener}
use Rattle.nests.specs.Walks.{entries_from, Begins, BeginsOpener, GraphAt, OpenerAt}
use Rattle.nests.proofs.Entries.{entries_length}
use Rattle.nests.proofs.Members.{begins_none, begins_more, begins_split, one_begins, begins_small, member_either}

-- no member stands at a place
abbrev pub NoMember : Way → ℕ → List (List ℕ) → ℕ → Type 0
NoMember way d row at = (c p : ℕ) (after : List (List ℕ)) → ¬ Begins way d 1 (entries_from row at) c p after

-- neither a graph nor an opener of the other kind
pub no_member : (way : Way) (d : ℕ) (row : List (List ℕ)) (at : ℕ) → GraphAt row at None → OpenerAt (other way) d row at None → NoMember way d row at
no_member way d row at no_graph no_opener c p after b = ⊎_elim (no_graph c p after) (no_opener c p after) (member_either b)

-- of the members inside the opener at a place so many are passed, with this C and P, and `next` comes then
pub record Passes (way : Way) (d : ℕ) (row : List (List ℕ)) (at passed next c p : ℕ) : Type 0 where
  pub begins : Begins way d passed (entries_from row (at + 1)) c p (entries_from row next)

module _ {way : Way} {d : ℕ} {row : List (List ℕ)} {at : ℕ} where
  pub passes_begin : Passes way d row at 0 (at + 1) 0 0
  passes_begin = record { begins = begins_none _ }

  module _ {passed next c p : ℕ} (passes : Passes way d row at passed next c p) {x y : ℕ} (after : ℕ)
      (member : Begins way d 1 (entries_from row next) x y (entries_from row after)) where
    pub passes_more : Passes way d row at (passed + 1) after (c + x) (together way p y)
    passes_more = record { begins = begins_more passes.begins member }

    -- C and P with one more stay within 32 bits
    pub passes_small : length row ≤ 256 → (c + x < 4294967296) × (together way p y < 4294967296)
    passes_small short =
        let b = begins_small passes_more.begins in
        let long = entries_length row (at + 1) in
        (omega (arith, b.1, long, short), omega (arith, b.0, b.1, long, short))

  -- where no member comes next there are not so many
  passes_broken : {passed many next c p : ℕ} → Passes way d row at passed next c p → passed < many → NoMember way d row next
      → (x y : ℕ) (after : List (List ℕ)) → ¬ Begins way d many (entries_from row (at + 1)) x y after
  passes_broken {passed} {many} passes l none x y after b =
      let s = begins_split passed (many - passed) (omega (arith, l)) b in
      let next_is = one_begins s.first passes.begins in
      let one = begins_split 1 (many - passed - 1) (omega (arith, l)) (rw next_is at s.others) in
      none one.c one.p one.between one.first

-- ---- the opener at a place, as a walk over it answers

module _ (way : Way) (depth : ℕ) (row : List (List ℕ)) (at : ℕ) where
  pub no_depth : ¬ (1 ≤ depth) → OpenerAt way depth row at None
  no_depth none c p after o = none o.deep

  module _ {many : ℕ} (opener : BeginsOpener (kind_of way) (entries_from row at) many (entries_from row (at + 1)))
      {passed next c p : ℕ} (passes : Passes way (depth - 1) row at passed next c p) where
    -- no member comes next: the opener has not so many
    pub no_more : passed < many → NoMember way (depth - 1) row next → OpenerAt way depth row at None
    no_more l none x y after o =
        let same = same_opener way (sym opener.writes ∙ o.opener.writes) in
        passes_broken passes l none x y after (rw (← same.0, ← same.1) at o.begins)

    -- all are passed
    pub all_passed : 1 ≤ depth → passed ≡ many → OpenerAt way depth row at (Some (record { next = next; c = c; p = p }))
    all_passed deep e = record { many = many; inside = _; opener = opener; deep = deep; begins = rw e at passes.begins }
