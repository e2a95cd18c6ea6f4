-- From a walk over the whole row to the figures of the nest, or to 32. Assumes nothing.
use Rattle.std.proofs.Common.{refl, sym, ap, ap₂, ◌∙◌, List, [], ◌∷◌, append-nil, ℕ, ◌≤◌, ◌<◌, arith, length, Ok, Err, Some, None}
use Rattle.terms.specs.Joins.{end_to_end}
use Rattle.terms.specs.Nests.{Nest, count, work_of, path_of, opener_entry, written, IsNest, SomeNest}
use Rattle.terms.specs.Refusals.{nest_rows}
use Rattle.terms.specs.Replies.{IsNestMeasure}
use Rattle.terms.specs.declared.Refusal.TheVariants.{Nest as NestRefusal}
use Rattle.terms.proofs.Decisions.{told}
use Rattle.theory.proofs.Answers.{begin, stop}
use Rattle.nests.specs.declared.walk.Walk.{Walk}
use Rattle.nests.specs.Walks.{entries_from, weights_of, Opens, OpenerAt}
use Rattle.nests.proofs.Entries.{entries_length, entries_past}
use Rattle.nests.proofs.Members.{one_opens}

module _ (row : List (List ℕ)) where
  -- a nest is an opener that fills the row
  fills_row : {nest : Nest} → IsNest row nest → Opens end_to_end 8 (entries_from row 0) (work_of nest) (path_of nest) []
  unfolding entries_from
  fills_row {nest} n = record {
    many = count nest;
    inside = written nest;
    opener = record { writes = n.fills; in_range = n.members };
    deep = omega arith;
    begins = record {
      members = nest;
      counts = refl;
      writes = sym (append-nil (written nest));
      ruled = n.ruled;
      shallow = omega (arith, n.shallow);
      work = refl;
      path = refl;
    };
  }

  is_nest_lem : {c p : ℕ} → length row ≤ 256 → (o : Opens end_to_end 8 (entries_from row 0) c p []) → IsNest row o.begins.members
  unfolding entries_from
  is_nest_lem short o = let b = o.begins in record {
    fills = o.opener.writes ∙ ap₂ (λ (many : ℕ) (inside : List (List ℕ)). opener_entry end_to_end many ∷ inside) (sym b.counts)
        (b.writes ∙ append-nil (written b.members));
    short = short;
    members = rw b.counts o.opener.in_range;
    ruled = b.ruled;
    shallow = omega (arith, b.shallow);
  }

  refused : ¬ SomeNest row → IsNestMeasure row (Err NestRefusal)
  unfolding IsNestMeasure nest_rows
  refused n = stop (begin (nest_rows row)) n told

  -- more than 256 entries
  pub row_long : 256 < length row → IsNestMeasure row (Err NestRefusal)
  row_long l = refused (λ n. omega (arith, l, n.is_nest.short))

  -- no sequence opens the row
  pub row_broken : OpenerAt end_to_end 8 row 0 None → IsNestMeasure row (Err NestRefusal)
  row_broken none = refused (λ n. none (work_of n.nest) (path_of n.nest) [] (fills_row n.is_nest))

  module _ (walk : Walk) (opener : OpenerAt end_to_end 8 row 0 (Some walk)) where
    -- it does not fill the row
    pub row_left : walk.next < length row → IsNestMeasure row (Err NestRefusal)
    row_left l = refused (λ n.
        let long = ap length (one_opens opener (fills_row n.is_nest)) in
        omega (arith, long, l, entries_length row walk.next))

    pub row_filled : length row ≤ walk.next → length row ≤ 256 → IsNestMeasure row (Ok (weights_of walk.c walk.p))
    unfolding IsNestMeasure
    row_filled l short =
        let o = rw (entries_past row walk.next l) at opener in
        (o.begins.members, is_nest_lem short o, o.begins.work, o.begins.path)
