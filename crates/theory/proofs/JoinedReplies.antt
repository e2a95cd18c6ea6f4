-- The table of a join accepts exactly where both graphs are accepted, the made one is within the limits and there is room; and what an accepted
-- join makes is accepted. Assumes nothing.
use Rattle.std.proofs.Common.{inl, inr, ⊎_elim, ℕ, ◌≤◌, ◌<◌, arith, length}
use Rattle.std.proofs.Math.Logic.{by_cases}
use Rattle.std.proofs.Math.Decide.{dec_le}
use Rattle.terms.specs.Rows.{Accepted}
use Rattle.terms.specs.Refusals.{graph_rows, join_rows}
use Rattle.terms.specs.Joins.{Graph, size, Way, joined, WithinLimits}
use Rattle.theory.specs.Joined.{IsAccepted}
use Rattle.theory.proofs.Answers.{accepted_both, begin, past, past_all, done, holds_of, none_holds}
use Rattle.theory.proofs.JoinedSound.{joined_accepted}

-- what is not above is at most
at_most : (m n : ℕ) → ¬ (n < m) → m ≤ n
at_most m n h = by_cases (dec_le m n) (λ l. l) (λ l. absurd (h (omega (arith, l))))

module _ (a b g : Graph) (times arrows : ℕ) where
  pub sound_join : Accepted (join_rows a b g times arrows)
      → IsAccepted a × IsAccepted b × WithinLimits g × (size g ≤ times) × (length g.arrows ≤ arrows)
  unfolding join_rows holds_of
  sound_join h =
      let p = accepted_both (graph_rows a.times a.arrows) _ h in
      let q = accepted_both (graph_rows b.times b.arrows) _ p.1 in (
        p.0,
        q.0,
        record { few = at_most (size g) 256 (none_holds 30 _ q.1); few_arrows = at_most (length g.arrows) 2048 (none_holds 31 _ q.1) },
        at_most (size g) times (λ l. none_holds 11 _ q.1 (inl l)),
        at_most (length g.arrows) arrows (λ l. none_holds 11 _ q.1 (inr l)),
      )

  pub accepted_joins : IsAccepted a → IsAccepted b → WithinLimits g → size g ≤ times → length g.arrows ≤ arrows → Accepted (join_rows a b g times arrows)
  unfolding join_rows
  accepted_joins p q l m n =
      let first = past_all (graph_rows a.times a.arrows) (begin (join_rows a b g times arrows)) p in
      let second = past_all (graph_rows b.times b.arrows) first q in
      let r30 = past second (λ h. omega (arith, h, l.few)) in
      let r31 = past r30 (λ h. omega (arith, h, l.few_arrows)) in
      done (past r31 (λ h. ⊎_elim (λ s. omega (arith, s, m)) (λ s. omega (arith, s, n)) h))

-- what an accepted join makes is accepted
pub made_accepted : (way : Way) (a b : Graph) (times arrows : ℕ) → Accepted (join_rows a b (joined way a b) times arrows) → IsAccepted (joined way a b)
made_accepted way a b times arrows h =
    let s = sound_join a b (joined way a b) times arrows h in
    joined_accepted way a b s.0 s.1 s.2
