-- A graph is accepted exactly where it is without fault and within the limits. Assumes nothing.
use Rattle.std.proofs.Common.{refl, ℕ}
use Rattle.terms.specs.Graphs.{IsSubtask, Precedes, step}
use Rattle.terms.specs.Joins.{Graph, WithinLimits}
use Rattle.theory.specs.Sound.{SoundGraph}
use Rattle.theory.specs.Joined.{IsAccepted, Faultless}
use Rattle.theory.proofs.Accepted.{sound_graph, accepted_graph}

-- what acceptance hands out
pub accepted_faultless : (g : Graph) → IsAccepted g → Faultless g
accepted_faultless g h =
    let s = sound_graph g.times g.arrows h in
    record { some = s.count.low; positive = s.positive; named = s.named; once = s.once; acyclic = s.acyclic }

pub accepted_within : (g : Graph) → IsAccepted g → WithinLimits g
accepted_within g h = let s = sound_graph g.times g.arrows h in record { few = s.count.high; few_arrows = s.few }

-- and what it takes
pub faultless_sound : (g : Graph) → Faultless g → WithinLimits g → SoundGraph g.times g.arrows
faultless_sound g f l = record {
  count = record { low = f.some; high = l.few };
  positive = f.positive;
  few = l.few_arrows;
  named = f.named;
  apart = λ p i e. f.acyclic _ (step (record { place = p; inside = i; begins = e; arrives = refl }));
  once = f.once;
  acyclic = f.acyclic;
}

pub accepted : (g : Graph) → Faultless g → WithinLimits g → IsAccepted g
accepted g f l = accepted_graph g.times g.arrows (faultless_sound g f l)

-- the two ends of an arrow are subtasks
pub from_named : {g : Graph} {i j : ℕ} → Faultless g → Precedes g.arrows i j → IsSubtask g.times i
from_named f w = rw w.begins at (f.named w.place w.inside).0

pub to_named : {g : Graph} {i j : ℕ} → Faultless g → Precedes g.arrows i j → IsSubtask g.times j
to_named f w = rw w.arrives at (f.named w.place w.inside).1
