-- Every arrow of a reading has two ends. Assumes nothing.
use Rattle.std.proofs.Common.{refl, List, [], ◌∷◌, ◌++◌, Bool, true, false, cond, ℕ, zero, suc, ◌+◌, eqb, leb}
use Rattle.terms.specs.Readings.{Reading, refuse, graph, need, line_at_hand, lines_after, is_task, is_exit_dummy, is_entry_dummy, is_first, may_follow, time_in}
use Rattle.terms.specs.Readings.{predecessors_in, size_in, arrows_into, with_task, trailer, exit_line, task_lines, entry_line, read_lines}
use Rattle.terms.specs.declared.Refusal.{Refusal}
use Rattle.terms.specs.declared.Refusal.TheVariants.{FirstLine, TaskLine, DummyLine, TimeLarge}
use Rattle.stg.specs.RowsRead.{AllPairs}

pairs_append : (xs ys : List (List ℕ)) → AllPairs xs → AllPairs ys → AllPairs (xs ++ ys)
pairs_append [] ys p q = q
pairs_append (x ∷ xs) ys p q = (p.0, pairs_append xs ys p.1 q)

pairs_one : (t : Bool) (p i : ℕ) (xs : List (List ℕ)) → AllPairs xs → AllPairs (cond t xs ((p ∷ i ∷ []) ∷ xs))
pairs_one true p i xs h = h
pairs_one false p i xs h = (refl, h)

pairs_into : (i : ℕ) (ps : List ℕ) → AllPairs (arrows_into i ps)
unfolding arrows_into
pairs_into i [] = tt
pairs_into i (p ∷ ps) = pairs_one (eqb p 0) p i (arrows_into i ps) (pairs_into i ps)

abbrev pub PairsIn : Reading → Type 0
PairsIn (refuse k) = Unit {0}
PairsIn (graph ts bs) = AllPairs bs

pairs_need : (t : Bool) (k : Refusal) (r : Reading) → PairsIn r → PairsIn (need t k r)
pairs_need true k r h = h
pairs_need false k r h = tt

pairs_join : (t : ℕ) (bs : List (List ℕ)) (r : Reading) → AllPairs bs → PairsIn r → PairsIn (with_task t bs r)
unfolding with_task
pairs_join t bs (refuse k) p h = tt
pairs_join t bs (graph ts cs) p h = pairs_append bs cs p h

pairs_spares : (ls : List (List ℕ)) → PairsIn (trailer ls)
unfolding trailer
pairs_spares [] = tt
pairs_spares (l ∷ ls) = pairs_need (may_follow l) TaskLine (trailer ls) (pairs_spares ls)

pairs_exit : (i : ℕ) (ls : List (List ℕ)) → PairsIn (exit_line i ls)
unfolding exit_line
pairs_exit i ls =
    pairs_need (is_task i (line_at_hand ls)) TaskLine (need (is_exit_dummy i (line_at_hand ls)) DummyLine (trailer (lines_after ls)))
    (pairs_need (is_exit_dummy i (line_at_hand ls)) DummyLine (trailer (lines_after ls)) (pairs_spares (lines_after ls)))

pairs_tasks : (i k : ℕ) (ls : List (List ℕ)) → PairsIn (task_lines i k ls)
unfolding task_lines
pairs_tasks i zero ls = pairs_exit i ls
pairs_tasks i (suc k) ls =
    let t = time_in (line_at_hand ls) in
    let bs = arrows_into i (predecessors_in (line_at_hand ls)) in
    let r = task_lines (i + 1) k (lines_after ls) in
    pairs_need (is_task i (line_at_hand ls)) TaskLine (need (leb t 65535) TimeLarge (with_task t bs r))
    (pairs_need (leb t 65535) TimeLarge (with_task t bs r) (pairs_join t bs r (pairs_into i (predecessors_in (line_at_hand ls))) (pairs_tasks (i + 1) k (lines_after ls))))

pub pairs_reading : (ls : List (List ℕ)) → PairsIn (read_lines ls)
unfolding read_lines entry_line
pairs_reading ls =
    let m = lines_after ls in
    let r = task_lines 1 (size_in (line_at_hand ls)) (lines_after m) in
    pairs_need (is_first (line_at_hand ls)) FirstLine (need (is_task 0 (line_at_hand m)) TaskLine (need (is_entry_dummy (line_at_hand m)) DummyLine r))
    (pairs_need (is_task 0 (line_at_hand m)) TaskLine (need (is_entry_dummy (line_at_hand m)) DummyLine r)
    (pairs_need (is_entry_dummy (line_at_hand m)) DummyLine r (pairs_tasks 1 (size_in (line_at_hand ls)) (lines_after m))))
