-- What the table of a join answers, piece by piece. Assumes nothing.
use Rattle.std.proofs.Common.{◌≡◌, sym, ap, ◌∙◌, inl, inr, List, [], ◌∷◌, ◌++◌, append_assoc, ℕ, ◌+◌, ◌≤◌, ◌<◌, arith, length, length-append}
use Rattle.terms.specs.Rows.{Accepted, RefusedBy, Row, row}
use Rattle.terms.specs.Refusals.{graph_rows, join_rows}
use Rattle.terms.specs.Joins.{Graph, size, joined_to}
use Rattle.terms.specs.declared.Refusal.{Refusal}
use Rattle.theory.specs.Joined.{IsAccepted}
use Rattle.terms.proofs.Decisions.{told}
use Rattle.theory.proofs.Answers.{refused_first, refused_later, accepted_join, accepted_both, Passed, begin, past, past_all, stop, done}
use Rattle.joins.specs.Tables.{both_rows, made_rows}
use Rattle.terms.specs.declared.Refusal.TheVariants.{JoinedSubtasks}

-- ---- 1 to 7 of the first, 1 to 7 of the second, 30

module _ (a b : Graph) where
  pub first_refuses : (refusal : Refusal) → RefusedBy (graph_rows a.times a.arrows) refusal → RefusedBy (both_rows a b) refusal
  unfolding both_rows
  first_refuses refusal h = refused_first (graph_rows a.times a.arrows) _ refusal h

  pub second_refuses : (refusal : Refusal) → IsAccepted a → RefusedBy (graph_rows b.times b.arrows) refusal → RefusedBy (both_rows a b) refusal
  unfolding both_rows
  second_refuses refusal p h =
      refused_later (graph_rows a.times a.arrows) _ refusal p (refused_first (graph_rows b.times b.arrows) _ refusal h)

  asked : IsAccepted a → IsAccepted b → Passed (both_rows a b) (row 30 (256 < length (a.times ++ b.times)) ∷ [])
  unfolding both_rows
  asked p q = past_all (graph_rows b.times b.arrows) (past_all (graph_rows a.times a.arrows) (begin _) p) q

  pub too_many : IsAccepted a → IsAccepted b → 256 < size a + size b → RefusedBy (both_rows a b) JoinedSubtasks
  too_many p q l = stop (asked p q) (omega (arith, l, length-append a.times b.times)) told

  pub both_accepted : IsAccepted a → IsAccepted b → size a + size b ≤ 256 → Accepted (both_rows a b)
  both_accepted p q l = done (past (asked p q) (λ h. omega (arith, h, l, length-append a.times b.times)))

  -- what is known where none of these holds
  pub both_sound : Accepted (both_rows a b) → IsAccepted a × IsAccepted b × (size a + size b ≤ 256)
  unfolding both_rows Accepted
  both_sound h =
      let p = accepted_both (graph_rows a.times a.arrows) _ h in
      let q = accepted_both (graph_rows b.times b.arrows) _ p.1 in
      (p.0, q.0, at_most q.1.0)
    where
      at_most : ¬ (256 < length (a.times ++ b.times)) → size a + size b ≤ 256
      at_most n = omega (arith, n, length-append a.times b.times)

-- ---- and 31 and 11, of the graph that they make

module _ (targets : List ℕ) (a b : Graph) (times arrows : ℕ) where
  abbrev g : Graph
  g = joined_to targets a b

  parted : join_rows a b g times arrows ≡ both_rows a b ++ made_rows (size g) (length g.arrows) times arrows
  unfolding join_rows both_rows made_rows
  parted =
      let first = graph_rows a.times a.arrows in
      let second = graph_rows b.times b.arrows in
      let made = made_rows (size g) (length g.arrows) times arrows in
      let last = row 30 (256 < size g) ∷ [] in
      sym (append_assoc first (second ++ last) made ∙ ap (λ (rows : List Row). first ++ rows) (append_assoc second last made))

  pub both_refuse : (refusal : Refusal) → RefusedBy (both_rows a b) refusal → RefusedBy (join_rows a b g times arrows) refusal
  both_refuse refusal h = rw parted (refused_first (both_rows a b) _ refusal h)

  pub made_refused : (refusal : Refusal) → Accepted (both_rows a b) → RefusedBy (made_rows (size g) (length g.arrows) times arrows) refusal
      → RefusedBy (join_rows a b g times arrows) refusal
  made_refused refusal p h = rw parted (refused_later (both_rows a b) _ refusal p h)

  pub made_accepted : Accepted (both_rows a b) → Accepted (made_rows (size g) (length g.arrows) times arrows) → Accepted (join_rows a b g times arrows)
  made_accepted p h = rw parted (accepted_join (both_rows a b) _ p h)

-- there is room for what is made
pub made_room : (n many times arrows : ℕ) → Accepted (made_rows n many times arrows) → (n ≤ times) × (many ≤ arrows)
unfolding made_rows Accepted
made_room n many times arrows (_, (short, _)) = (at_most n times (λ l. short (inl l)), at_most many arrows (λ l. short (inr l)))
  where
    at_most : (m k : ℕ) → ¬ (k < m) → m ≤ k
    at_most m k h = omega (arith, h)
