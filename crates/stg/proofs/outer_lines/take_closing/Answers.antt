-- `take_closing`: the exit dummy's line and those that may follow. Assumes nothing.
use Rattle.std.proofs.Common.{◌≡◌, ◌∙◌, Bool, cond, []}
use Rattle.std.proofs.lemmas.Result.{err_from_is_err_and}
use Rattle.terms.specs.Readings.{Reading, graph, refuse}
use Rattle.terms.specs.declared.Refusal.TheVariants.{TaskLine}
use Rattle.stg.proofs.AllLines.{exit_refused, exit_passed}
use Rattle.stg.proofs.outer_lines.take_closing.Goals as goal

told : (s : Reading) (b t : Bool) → s ≡ cond b (graph [] []) (refuse TaskLine) → b ≡ t → s ≡ cond t (graph [] []) (refuse TaskLine)
told s b t e f = rw (← f) e

pub returns-in_err-next : goal.returns-in_err-next
returns-in_err-next c =
    let p = err_from_is_err_and c.from_residual.result c.from_residual.ensures.1 in
    rw (p.1, p.2) (exit_refused c.args.text.now c.args.at c.args.i _ c.in_err-next.ensures)

pub returns-then-not-may_end : goal.returns-then-not-may_end
returns-then-not-may_end c =
    exit_passed c.args.text.now c.args.at c.args.i c.in_ok-next.ensures ∙ told _ _ _ c.may_end.ensures c.if-not-may_end.true

pub returns : goal.returns
returns c =
    exit_passed c.args.text.now c.args.at c.args.i c.in_ok-next.ensures ∙ told _ _ _ c.may_end.ensures c.if-not-may_end.false
