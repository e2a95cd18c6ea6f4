-- `no_number`: a line's end, or a piece that is no number. Assumes nothing.
use Rattle.std.proofs.Common.{◌≡◌, sym, ◌∙◌, arith, get_or}
use Rattle.std.proofs.lemmas.List.{take_rest}
use Rattle.text.proofs.Steps.{none_feed, none_return}
use Rattle.text.proofs.no_number.Goals as goal

pub returns-in-10 : goal.returns-in-10
returns-in-10 c =
    let rest = c.in-Some.rest.now in
    let first : get_or rest 0 0 ≡ 10 = grind arith in
    rw (sym (c.in-Some.ensures.lookup.0.2 ∙ take_rest c.args.text.now c.args.at)) (none_feed c.args.at rest first)

pub returns-in-13 : goal.returns-in-13
returns-in-13 c =
    let rest = c.in-Some.rest.now in
    rw (sym (c.in-Some.ensures.lookup.0.2 ∙ take_rest c.args.text.now c.args.at))
    (none_return c.args.at rest (omega arith) (omega arith) (omega arith))
