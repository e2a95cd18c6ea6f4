-- The entries of a plan after one subtask is placed, and before any is. Assumes nothing.
use Rattle.std.proofs.Common.{◌≡◌, ap, ◌≢◌, List, ℕ, ◌-◌, ◌≤◌, arith, length, replicate, length-set, get_or-set_same, get_or-set_other}
use Rattle.std.proofs.lemmas.List.{get_or-replicate}
use Rattle.terms.specs.Graphs.{IsSubtask}
use Rattle.terms.specs.Plans.{at, not_placed, processor_of, start_of}
use Rattle.terms.specs.ListRule.{put}
use Rattle.terms.specs.declared.Entry.{Entry}

-- the entries after a step
pub put_length : (plan : List Entry) (j p t : ℕ) → length (put plan j p t) ≡ length plan
unfolding put
put_length plan j p t = length-set plan (j - 1) (at p t)

pub put_processor : (plan : List Entry) (j p t : ℕ) → 1 ≤ j → j ≤ length plan → processor_of (put plan j p t) j ≡ p
unfolding put processor_of
put_processor plan j p t a b = ap (λ (e : Entry). e.processor.0) (get_or-set_same plan (j - 1) (at p t) not_placed (omega arith))

pub put_start : (plan : List Entry) (j p t : ℕ) → 1 ≤ j → j ≤ length plan → start_of (put plan j p t) j ≡ t
unfolding put start_of
put_start plan j p t a b = ap (λ (e : Entry). e.start) (get_or-set_same plan (j - 1) (at p t) not_placed (omega arith))

pub keep_processor : (plan : List Entry) (j p t k : ℕ) → 1 ≤ j → 1 ≤ k → k ≢ j → processor_of (put plan j p t) k ≡ processor_of plan k
unfolding put processor_of
keep_processor plan j p t k a b h = ap (λ (e : Entry). e.processor.0) (get_or-set_other plan (j - 1) (k - 1) (at p t) not_placed (omega arith))

pub keep_start : (plan : List Entry) (j p t k : ℕ) → 1 ≤ j → 1 ≤ k → k ≢ j → start_of (put plan j p t) k ≡ start_of plan k
unfolding put start_of
keep_start plan j p t k a b h = ap (λ (e : Entry). e.start) (get_or-set_other plan (j - 1) (k - 1) (at p t) not_placed (omega arith))

-- nothing is placed at the beginning
pub none_placed : (times : List ℕ) (j : ℕ) → IsSubtask times j → processor_of (replicate (length times) not_placed) j ≡ 0
unfolding processor_of
none_placed times j s = ap (λ (e : Entry). e.processor.0) (get_or-replicate (length times) (j - 1) not_placed not_placed (omega arith))
