-- `sequence_at` and `group_at`: what opens at a place, with a depth that falls from call to call. Assumes nothing.
use Rattle.nests.proofs.Members.{graph_member, opener_member}
use Rattle.nests.proofs.Passed.{passes_begin, passes_more, passes_small, no_member, no_more}
use Rattle.nests.proofs.walk.+group_sequence.Goals.{sequence_at-in-Some, sequence_at-in-None+in_ok-member-in-None, group_at-in-Some, group_at-in-None+in_ok-member-in-None}
use Rattle.nests.proofs.walk.+group_sequence.Goals as goal

-- ---- a sequence

pub sequence_at-loop-init : goal.sequence_at-loop-init
sequence_at-loop-init t c = passes_begin

pub sequence_at-then-walk-requires : goal.sequence_at-then-walk-requires
sequence_at-then-walk-requires t c = elim c.match-graph_at.branch [
  | sequence_at-in-Some w ↦ rw w.member-is (passes_small c.loop.invariant _ (graph_member w.in-Some.ensures) c.requires)
  | sequence_at-in-None+in_ok-member-in-None w ↦ rw w.member-is (passes_small c.loop.invariant _ (opener_member w.in_ok-member-in-None.ensures) c.requires)
]

pub sequence_at-returns-in_err-member-in-None : goal.sequence_at-returns-in_err-member-in-None
sequence_at-returns-in_err-member-in-None t c =
    rw (c.from_residual-in_err-member-in-None.ensures)
    (no_more _ _ _ _ c.in_ok-members.ensures.1 c.loop.invariant c.loop-test.true
    (no_member _ _ _ _ c.in-None.ensures c.in_err-member-in-None.ensures))

pub sequence_at-loop-preserved : goal.sequence_at-loop-preserved
sequence_at-loop-preserved t c = elim c.match-graph_at.branch [
  | sequence_at-in-Some w ↦ rw (c.then-walk.ensures, w.member-is) (passes_more c.loop.invariant _ (graph_member w.in-Some.ensures))
  | sequence_at-in-None+in_ok-member-in-None w ↦ rw (c.then-walk.ensures, w.member-is) (passes_more c.loop.invariant _ (opener_member w.in_ok-member-in-None.ensures))
]

-- ---- a group

pub group_at-loop-init : goal.group_at-loop-init
group_at-loop-init t c = passes_begin

pub group_at-beside-walk-requires : goal.group_at-beside-walk-requires
group_at-beside-walk-requires t c = elim c.match-graph_at.branch [
  | group_at-in-Some w ↦ rw w.member-is (passes_small c.loop.invariant _ (graph_member w.in-Some.ensures) c.requires).0
  | group_at-in-None+in_ok-member-in-None w ↦ rw w.member-is (passes_small c.loop.invariant _ (opener_member w.in_ok-member-in-None.ensures) c.requires).0
]

pub group_at-returns-in_err-member-in-None : goal.group_at-returns-in_err-member-in-None
group_at-returns-in_err-member-in-None t c =
    rw (c.from_residual-in_err-member-in-None.ensures)
    (no_more _ _ _ _ c.in_ok-members.ensures.1 c.loop.invariant c.loop-test.true
    (no_member _ _ _ _ c.in-None.ensures c.in_err-member-in-None.ensures))

pub group_at-loop-preserved : goal.group_at-loop-preserved
group_at-loop-preserved t c = elim c.match-graph_at.branch [
  | group_at-in-Some w ↦ rw (c.beside-walk.ensures, w.member-is) (passes_more c.loop.invariant _ (graph_member w.in-Some.ensures))
  | group_at-in-None+in_ok-member-in-None w ↦ rw (c.beside-walk.ensures, w.member-is) (passes_more c.loop.invariant _ (opener_member w.in_ok-member-in-None.ensures))
]
