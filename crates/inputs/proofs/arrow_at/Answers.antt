-- `arrow_at`: the arrow at a place has the two ends that the row holds there, and 0 outside the row. Assumes nothing.
use Rattle.std.proofs.Common.{arith, ◌≡◌, sym, ap, ℕ, List, [], get_or}
use Rattle.std.proofs.Math.ListN.{get_or-eq_default}
use Rattle.terms.specs.Graphs.{from_of, to_of}
use Rattle.inputs.proofs.arrow_at.Goals as goal

pub returns-then-arrows-place : goal.returns-then-arrows-place
unfolding from_of to_of
returns-then-arrows-place c = record {
  begins = sym (ap (λ (ends : List ℕ). get_or ends 0 0) none);
  begins_small = omega arith;
  arrives = sym (ap (λ (ends : List ℕ). get_or ends 1 0) none);
  arrives_small = omega arith;
}
  where
    none : get_or c.args.arrows.now c.args.place [] ≡ []
    none = get_or-eq_default c.args.arrows.now [] (omega arith)

pub returns : goal.returns
unfolding from_of to_of
returns c =
    let arrow = c.arrow_of.ensures in
    record { begins = arrow.begins; begins_small = arrow.begins_small; arrives = arrow.arrives; arrives_small = arrow.arrives_small }
