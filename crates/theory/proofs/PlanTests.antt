-- Acceptance of a plan by finitely many tests, which is what a plan check asks. Assumes nothing.
use Rattle.std.proofs.Common.{◌≡◌, refl, ◌≢◌, ◌⊎◌, inl, inr, List, ℕ, ◌≤◌, ◌<◌, max, arith, length}
use Rattle.terms.specs.Graphs.{Among, IsSubtask, time_of, from_of, to_of}
use Rattle.terms.specs.Plans.{processor_of, start_of, end_of, Placed, RunsAt, ReadyAt, IdleAt}
use Rattle.terms.specs.declared.Entry.{Entry}
use Rattle.theory.specs.Sound.{SoundGraph}
use Rattle.theory.proofs.SoundPlans.{SoundPlan, BusyPlan}
use Rattle.theory.proofs.Running.{running, free_when_fewer, fewer_when_free}
use Rattle.theory.proofs.Instants.{idle_at_event}

-- 16: two subtasks share an instant exactly if each starts before the other ends
pub share : (times : List ℕ) (plan : List Entry) (i j : ℕ) → Placed plan i → Placed plan j → 1 ≤ time_of times i → 1 ≤ time_of times j
    → start_of plan i < end_of times plan j → start_of plan j < end_of times plan i → (u : ℕ) × RunsAt times plan i u × RunsAt times plan j u
unfolding end_of
share times plan i j p q x y a b = (
  max (start_of plan i) (start_of plan j),
  record { placed = p; begun = omega arith; unended = omega arith },
  record { placed = q; begun = omega arith; unended = omega arith },
)

pub shared : (times : List ℕ) (plan : List Entry) (i j u : ℕ) → RunsAt times plan i u → RunsAt times plan j u
    → (start_of plan i < end_of times plan j) × (start_of plan j < end_of times plan i)
shared times plan i j u r q = (omega (arith, r.begun, q.unended), omega (arith, q.begun, r.unended))

pub record PlanTests (times : List ℕ) (arrows : List (List ℕ)) (M : ℕ) (plan : List Entry) : Type 0 where
  pub processors : Among 1 16 M
  pub whole : length plan ≡ length times
  pub placed : (j : ℕ) → IsSubtask times j → Among 1 M (processor_of plan j)
  pub starts : (j : ℕ) → IsSubtask times j → start_of plan j ≤ 16776960
  pub ordered : (a : ℕ) → a < length arrows → end_of times plan (from_of arrows a) ≤ start_of plan (to_of arrows a)
  pub apart : (i : ℕ) → IsSubtask times i → (j : ℕ) → IsSubtask times j
      → ¬ ((i ≢ j) × ((processor_of plan i ≡ processor_of plan j) × ((start_of plan i < end_of times plan j) × (start_of plan j < end_of times plan i))))
  pub first : ¬ IdleAt times arrows M plan 0
  pub later : (j : ℕ) → IsSubtask times j → ¬ IdleAt times arrows M plan (end_of times plan j)

module _ (times : List ℕ) (arrows : List (List ℕ)) (M : ℕ) (plan : List Entry) (g : SoundGraph times arrows) where
  pub pass : PlanTests times arrows M plan → BusyPlan times arrows M plan
  pass t = record {
    sound = record {
      processors = t.processors;
      whole = t.whole;
      placed = t.placed;
      starts = t.starts;
      ordered = λ i j w. rw (w.begins, w.arrives) at (t.ordered w.place w.inside);
      apart = λ i j u s q d e x y. t.apart i s j q (d, (e, shared times plan i j u x y));
    };
    busy = λ u d. late (idle_at_event times arrows M plan g u d);
  }
    where
      late : {t : ℕ} → ¬ ((u : ℕ) × (u ≤ t) × ((u ≡ 0) ⊎ ((j : ℕ) × IsSubtask times j × (end_of times plan j ≡ u))) × IdleAt times arrows M plan u)
      late (u, b, inl c, d) = t.first (rw c at d)
      late (u, b, inr (j, s, c), d) = t.later j s (rw (← c) at d)

  pub passed : BusyPlan times arrows M plan → PlanTests times arrows M plan
  passed a = record {
    processors = a.sound.processors;
    whole = a.sound.whole;
    placed = a.sound.placed;
    starts = a.sound.starts;
    ordered = λ k l. a.sound.ordered (from_of arrows k) (to_of arrows k) (record { place = k; inside = l; begins = refl; arrives = refl });
    apart = λ i s j q h.
        let u = share times plan i j (a.sound.placed i s).low (a.sound.placed j q).low (g.positive i s) (g.positive j q) h.1.1.0 h.1.1.1 in
        a.sound.apart i j u.0 s q h.0 h.1.0 u.1 u.2;
    first = a.busy 0;
    later = λ j s. a.busy (end_of times plan j);
  }

-- 17 by counting: a subtask is ready and fewer than M run
pub idle_when_fewer : (times : List ℕ) (arrows : List (List ℕ)) (M : ℕ) (plan : List Entry) (j t : ℕ) → IsSubtask times j
    → ReadyAt times arrows plan j t → running times plan t < M
    → IdleAt times arrows M plan t
idle_when_fewer times arrows M plan j t s r l =
    let p = free_when_fewer times plan M t l in record { subtask = j; is_subtask = s; ready = r; processor = p.0; in_range = p.1; free = p.2 }

pub fewer_when_idle : (times : List ℕ) (arrows : List (List ℕ)) (M : ℕ) (plan : List Entry) (t : ℕ) → SoundPlan times arrows M plan
    → IdleAt times arrows M plan t
    → running times plan t < M
fewer_when_idle times arrows M plan t sound d = fewer_when_free times arrows M plan t d.processor sound d.in_range d.free
