-- `unmark`: the mark is taken off, and that of its group where it has no other. Assumes nothing.
use Rattle.std.proofs.Common.{◌≡◌, ◌≢◌, refl, sym, ◌∙◌, ℕ, ◌+◌, ◌*◌, ◌/◌, ◌<◌, true, false, length, get_or, set, length-set, arith}
use Rattle.listplan.proofs.Scans.{grouped_last, no_mark}
use Rattle.listplan.proofs.marks.Marks.unmark.Goals as goal

pub invariant_of-self : goal.invariant_of-self
invariant_of-self c =
    let long : length (set c.self.inside.places c.args.x false) ≡ 256 = length-set c.self.inside.places c.args.x false ∙ c.self.invariant.0 in
    let after : (z : ℕ) → c.args.x < z → z < c.args.x / 16 * 16 + 16 → get_or (set c.self.inside.places c.args.x false) z false ≢ true =
    λ z low high. no_mark _ refl (set c.self.inside.places c.args.x false) (c.args.x + 1) _ (omega (arith, long, c.requires.0))
    (sym c.contains.ensures.value ∙ c.if-not-contains.true) z (omega arith) (omega arith) in
    (long, grouped_last c.requires.0 c.self.invariant.0 c.self.invariant.1 (rw (← c.self.view_is) at c.requires.1) after)
