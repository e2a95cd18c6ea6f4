-- Refusal 17 need only be asked at 0 and where a subtask ends. Assumes nothing.
use Rattle.std.proofs.Common.{◌≡◌, ◌⊎◌, inl, inr, List, ℕ, ◌≤◌, ◌<◌, arith, length}
use Rattle.std.proofs.Math.Logic.{by_cases}
use Rattle.std.proofs.Math.Decide.{dec_le}
use Rattle.terms.specs.Graphs.{IsSubtask}
use Rattle.terms.specs.Plans.{end_of, Placed, IdleAt}
use Rattle.terms.specs.declared.Entry.{Entry}
use Rattle.theory.specs.Sound.{SoundGraph}
use Rattle.theory.proofs.Accepted.{from_subtask}
use Rattle.theory.proofs.Search.{latest_of}

-- where no placed subtask ends after t and at e or before, nothing is idle at e that was not at t
pub same_idle : (times : List ℕ) (arrows : List (List ℕ)) (M : ℕ) (plan : List Entry) (t e : ℕ) → t ≤ e → SoundGraph times arrows
    → ((j : ℕ) → IsSubtask times j → Placed plan j → t < end_of times plan j → e < end_of times plan j)
    → IdleAt times arrows M plan e → IdleAt times arrows M plan t
same_idle times arrows M plan t e l g n d = record {
  subtask = d.subtask;
  is_subtask = d.is_subtask;
  ready = record {
    served = λ i w. let q = d.ready.served i w in
        (q.0, by_cases (dec_le (end_of times plan i) t) (λ y. y) (λ y. absurd (omega (arith, n i (from_subtask g w) q.0 (omega arith), q.1))));
    waiting = wait d.ready.waiting;
  };
  processor = d.processor;
  in_range = d.in_range;
  free = λ k s q r. d.free k s q (record { placed = r.placed; begun = omega (arith, r.begun); unended = n k s r.placed r.unended });
}
  where
    wait : {s : ℕ} {B : Type 0} → (e < s) ⊎ B → (t < s) ⊎ B
    wait (inl a) = inl (omega arith)
    wait (inr b) = inr b

pub idle_at_event : (times : List ℕ) (arrows : List (List ℕ)) (M : ℕ) (plan : List Entry) → SoundGraph times arrows → (t : ℕ) → IdleAt times arrows M plan t
    → (u : ℕ) × (u ≤ t) × ((u ≡ 0) ⊎ ((j : ℕ) × IsSubtask times j × (end_of times plan j ≡ u))) × IdleAt times arrows M plan u
idle_at_event times arrows M plan g t d =
    let x = latest_of (length times) (end_of times plan) t in
    let u = x.0 in
    let r = x.1 in (
      u,
      r.below,
      r.reached,
      same_idle times arrows M plan u t r.below g
          (λ j s b l. by_cases (dec_le (end_of times plan j) t) (λ z. absurd (omega (arith, r.latest j s z))) (λ z. omega arith)) d,
    )
