-- `verdict_of`: the figures of C and P, and fits or late. Assumes nothing.
use Rattle.std.proofs.Common.{refl, arith}
use Rattle.terms.specs.Verdicts.{bound, sure_end, load_of, IsVerdict}
use Rattle.verdict.proofs.Figures.{s_small, room_is}
use Rattle.verdict.proofs.verdict_of.Goals as goal

pub overflow_sub-s : goal.overflow_sub-s
overflow_sub-s c = omega (arith, c.requires.processors.low)

pub overflow_mul-s : goal.overflow_mul-s
overflow_mul-s c = omega (arith, s_small c.requires)

pub overflow_add-s : goal.overflow_add-s
overflow_add-s c = omega (arith, s_small c.requires)

pub sure_end-end-requires : goal.sure_end-end-requires
sure_end-end-requires c = c.requires.processors.low

pub overflow_mul-room : goal.overflow_mul-room
overflow_mul-room c = omega (arith, (room_is c.requires).high)

pub load-requires : goal.load-requires
load-requires c = (c.requires.work, room_is c.requires)

-- and fits
pub returns-then-end-d : goal.returns-then-end-d
unfolding bound sure_end load_of IsVerdict
returns-then-end-d c =
    record {
      figures_are = rw c.load.ensures refl;
      verdict = _;
      outcome_is = refl;
      verdict_is = (omega (arith, c.sure_end-end.ensures, c.if-end-d.true), omega (arith, c.sure_end-end.ensures));
    }

-- what is answered stands first, so that an edit is refused there: late,
pub returns-else-end-d : goal.returns-else-end-d
unfolding bound sure_end load_of IsVerdict
returns-else-end-d c =
    record {
      figures_are = rw c.load.ensures refl;
      verdict = _;
      outcome_is = refl;
      verdict_is = (omega (arith, c.sure_end-end.ensures, c.if-end-d.false), omega (arith, c.sure_end-end.ensures));
    }
