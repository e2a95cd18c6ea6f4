-- The list rule makes one plan only. Assumes nothing.
use Rattle.std.proofs.Common.{◌≡◌, refl, sym, ap, ◌∙◌, ⊎_elim, List, ℕ, suc, ◌≤◌, arith, get_or}
use Rattle.std.proofs.Math.Logic.{by_cases}
use Rattle.std.proofs.Math.Nat.{suc_inj}
use Rattle.std.proofs.Math.Decide.{dec_le, dec_lt, ℕ_discrete}
use Rattle.terms.specs.Graphs.{IsSubtask}
use Rattle.terms.specs.Plans.{Placed, IdleAt}
use Rattle.terms.specs.ListRule.{IsOrder, Goes, put, ByRule, begin, goes, tick, IsListPlan}
use Rattle.terms.specs.declared.Entry.{Entry}
use Rattle.theory.specs.Sound.{SoundGraph}
use Rattle.theory.proofs.ListRule.{by_rule}

module _ (times : List ℕ) (arrows : List (List ℕ)) (order : List ℕ) (M : ℕ) where
  -- a step leaves no choice
  goes_once : (plan : List Entry) (t j p k q : ℕ) → Goes times arrows order M plan t j p → Goes times arrows order M plan t k q → (j ≡ k) × (p ≡ q)
  goes_once plan t j p k q a b = (sym a.stands ∙ ap (λ (x : ℕ). get_or order x 0) same ∙ b.stands, one)
    where
      same : a.place ≡ b.place
      same = by_cases (dec_lt a.place b.place) (λ l. absurd (b.earliest a.place l (rw a.stands a.ready)))
          (λ l. by_cases (dec_lt b.place a.place) (λ m. absurd (a.earliest b.place m (rw b.stands b.ready))) (λ m. omega arith))

      one : p ≡ q
      one = by_cases (dec_lt p q) (λ l. absurd (b.lowest p a.in_range l a.free))
          (λ l. by_cases (dec_lt q p) (λ m. absurd (a.lowest q b.in_range m b.free)) (λ m. omega arith))

  -- where one goes the clock does not move
  goes_idle : IsOrder times order → (plan : List Entry) (t j p : ℕ) → Goes times arrows order M plan t j p → IdleAt times arrows M plan t
  goes_idle o plan t j p a = record {
    subtask = j;
    is_subtask = rw a.stands at (o.each a.place a.inside);
    ready = a.ready;
    processor = p;
    in_range = a.in_range;
    free = a.free;
  }

  steps : {t : ℕ} {plan : List Entry} → ByRule times arrows order M t plan → ℕ
  steps begin = 0
  steps (goes r j p a) = suc (steps r)
  steps (tick r h) = suc (steps r)

  module _ (o : IsOrder times order) where
    -- after so many steps there is one state
    one_state : {t u : ℕ} {plan other : List Entry} (r : ByRule times arrows order M t plan) (q : ByRule times arrows order M u other)
        → steps r ≡ steps q → (t ≡ u) × (plan ≡ other)
    unfolding steps
    one_state begin begin e = (refl, refl)
    one_state begin (goes q k y b) e = absurd (omega arith)
    one_state begin (tick q h) e = absurd (omega arith)
    one_state (goes r j x a) begin e = absurd (omega arith)
    one_state (tick r h) begin e = absurd (omega arith)
    one_state (goes {t = t} {plan = plan} r j x a) (goes {t = u} {plan = other} q k y b) e = go (one_state r q (suc_inj e))
      where
        go : (t ≡ u) × (plan ≡ other) → (t ≡ u) × (put plan j x t ≡ put other k y u)
        go (c, d) = let z = goes_once plan t j x k y a (rw (← c, ← d) at b) in (c, cc (z.0, z.1))
    one_state (goes {t = t} {plan = plan} r j x a) (tick {t = u} {plan = other} q h) e = go (one_state r q (suc_inj e))
      where
        go : (t ≡ u) × (plan ≡ other) → (t ≡ suc u) × (put plan j x t ≡ other)
        go (c, d) = absurd (h (rw (c, d) at (goes_idle o plan t j x a)))
    one_state (tick {t = t} {plan = plan} r h) (goes {t = u} {plan = other} q k y b) e = go (one_state r q (suc_inj e))
      where
        go : (t ≡ u) × (plan ≡ other) → (suc t ≡ u) × (plan ≡ put other k y u)
        go (c, d) = absurd (h (rw (← c, ← d) at (goes_idle o other u k y b)))
    one_state (tick {t = t} {plan = plan} r h) (tick {t = u} {plan = other} q i) e = go (one_state r q (suc_inj e))
      where
        go : (t ≡ u) × (plan ≡ other) → (suc t ≡ suc u) × (plan ≡ other)
        go (c, d) = (ap suc c, d)

    module _ (g : SoundGraph times arrows) where
      -- once everything is placed the plan stays as it is
      stays : {t u : ℕ} {plan other : List Entry} (r : ByRule times arrows order M t plan) → ((j : ℕ) → IsSubtask times j → Placed plan j)
          → (q : ByRule times arrows order M u other) → steps r ≤ steps q → plan ≡ other
      unfolding steps
      stays r all begin l = (one_state r begin (omega arith)).1
      stays {plan = plan} r all (goes {t = u} {plan = other} q j p a) l = by_cases (ℕ_discrete (steps r) (suc (steps q)))
          (λ e. (one_state r (goes q j p a) e).1) (λ e. absurd (placed_already (stays r all q (omega arith))))
        where
          placed_already : ¬ (plan ≡ other)
          placed_already e =
              let s : IsSubtask times j = rw a.stands at (o.each a.place a.inside) in
              let b : Placed other j = rw e at (all j s) in
              ⊎_elim (λ x. omega (arith, (by_rule times arrows M g order o q).begun j s b)) (λ x. x b) a.ready.waiting
      stays r all (tick q h) l = by_cases (ℕ_discrete (steps r) (suc (steps q))) (λ e. (one_state r (tick q h) e).1) (λ e. stays r all q (omega arith))

      -- so two plans of the rule are one
      pub one_list : (plan other : List Entry) → IsListPlan times arrows order M plan → IsListPlan times arrows order M other → plan ≡ other
      one_list plan other a b = by_cases (dec_le (steps a.made) (steps b.made))
          (λ l. stays a.made a.all b.made l) (λ l. sym (stays b.made b.all a.made (omega arith)))
