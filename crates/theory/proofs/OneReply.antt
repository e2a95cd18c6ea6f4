-- No second reply, and no second state of a lent row, satisfies the statement over a public function. Assumes nothing.
use Rattle.std.proofs.Common.{◌≡◌, refl, sym, ap, ap₂, ◌∙◌, List, ◌++◌, ℕ, arith, length, take, drop, take-append-drop}
use lib.Ieee.{Float}
use Rattle.terms.specs.Rows.{Row}
use Rattle.terms.specs.Verdicts.{IsVerdict, AreFigures}
use Rattle.terms.specs.Refusals.{time_and_arrow_rows, graph_rows, verdict_rows, list_rows, check_rows, write_rows, join_rows}
use Rattle.terms.specs.Replies.{IsCheck, IsMeasure, IsTotalWork, IsLongestPath, IsOutcome, IsAnswer, IsListed, IsChecked, IsWritten, IsJoined}
use Rattle.terms.specs.Writings.{stg_text}
use Rattle.terms.specs.Joins.{Graph}
use Rattle.terms.specs.Readings.{Reading, refuse, graph, read_text, IsReplyTo, IsRead}
use Rattle.terms.specs.declared.Entry.{Entry}
use Rattle.terms.specs.declared.Figures.{Figures}
use Rattle.terms.specs.declared.Verdict.{Verdict}
use Rattle.terms.specs.declared.Answer.{Answer}
use Rattle.theory.proofs.Answers.{one_refusal, not_both}
use Rattle.theory.proofs.Accepted.{sound_list}
use Rattle.theory.proofs.Paths.{one_longest}
use Rattle.theory.proofs.Ends.{one_end}
use Rattle.theory.proofs.OneList.{one_list}
use Rattle.terms.specs.declared.Verdict.TheVariants as verdict
use Rattle.std.specs.Prelude.{Result, Ok, Err}
use Rattle.terms.specs.declared.Weights.{Weights}
use Rattle.terms.specs.declared.GraphSize.{GraphSize}
use Rattle.terms.specs.declared.Refusal.{Refusal}

-- ---- the graph

pub one_check : (rows : List Row) (a b : Result (Unit {0}) Refusal) → IsCheck rows a → IsCheck rows b → a ≡ b
unfolding IsCheck
one_check rows (Ok _) (Ok _) p q = refl
one_check rows (Ok _) (Err b) p q = not_both rows b p q
one_check rows (Err a) (Ok _) p q = not_both rows a q p
one_check rows (Err a) (Err b) p q = ap Err (one_refusal rows a b p q)

-- ---- C and P

module _ (times : List ℕ) (arrows : List (List ℕ)) where
  pub one_measure : (rows : List Row) (a b : Result Weights Refusal) → IsMeasure rows times arrows a → IsMeasure rows times arrows b → a ≡ b
  unfolding IsMeasure
  one_measure rows (Ok a) (Ok b) p q =
      ap₂ (λ (C P : ℕ). Ok (record { c = C; p = P })) (p.1 ∙ sym q.1) (one_longest a.p b.p p.2 q.2)
  one_measure rows (Ok a) (Err b) p q = not_both rows b p.0 q
  one_measure rows (Err a) (Ok b) p q = not_both rows a q.0 p
  one_measure rows (Err a) (Err b) p q = ap Err (one_refusal rows a b p q)

  pub one_total_work : (a b : Result ℕ Refusal) → IsTotalWork times arrows a → IsTotalWork times arrows b → a ≡ b
  unfolding IsTotalWork
  one_total_work (Ok c) (Ok d) p q = ap Ok (p.1 ∙ sym q.1)
  one_total_work (Ok c) (Err b) p q = not_both (graph_rows times arrows) b p.0 q
  one_total_work (Err a) (Ok d) p q = not_both (graph_rows times arrows) a q.0 p
  one_total_work (Err a) (Err b) p q = ap Err (one_refusal (graph_rows times arrows) a b p q)

  pub one_longest_path : (a b : Result ℕ Refusal) → IsLongestPath times arrows a → IsLongestPath times arrows b → a ≡ b
  unfolding IsLongestPath
  one_longest_path (Ok c) (Ok d) p q = ap Ok (one_longest c d p.1 q.1)
  one_longest_path (Ok c) (Err b) p q = not_both (graph_rows times arrows) b p.0 q
  one_longest_path (Err a) (Ok d) p q = not_both (graph_rows times arrows) a q.0 p
  one_longest_path (Err a) (Err b) p q = ap Err (one_refusal (graph_rows times arrows) a b p q)

-- ---- the verdict

one_verdict : (S M D : ℕ) (a b : Verdict) → IsVerdict S M D a → IsVerdict S M D b → a ≡ b
unfolding IsVerdict
one_verdict S M D (verdict.Fits x) (verdict.Fits y) p q = ap verdict.Fits (p.1 ∙ sym q.1)
one_verdict S M D (verdict.Fits x) (verdict.Late y) p q = absurd (omega (arith, p.0, q.0))
one_verdict S M D (verdict.Late x) (verdict.Fits y) p q = absurd (omega (arith, p.0, q.0))
one_verdict S M D (verdict.Late x) (verdict.Late y) p q = ap verdict.Late (p.1 ∙ sym q.1)

same_figures : (c d p q s t : ℕ) (l m : Float) → c ≡ d → p ≡ q → s ≡ t → l ≡ m
    → ◌≡◌ {A = Figures} (record { c = c; p = p; s = s; load = l }) (record { c = d; p = q; s = t; load = m })
same_figures c d p q s t l m h i j k = cc

one_figures : (times : List ℕ) (arrows : List (List ℕ)) (M D : ℕ) (a b : Figures) → AreFigures times arrows M D a → AreFigures times arrows M D b → a ≡ b
one_figures times arrows M D a b p q =
    let c : a.c ≡ b.c = p.work ∙ sym q.work in
    let l : a.p ≡ b.p = one_longest a.p b.p p.path q.path in
    same_figures a.c b.c a.p b.p a.s b.s a.load b.load c l (cc (p.sum, q.sum)) (cc (p.load_is, q.load_is))

module _ (times : List ℕ) (arrows : List (List ℕ)) (M D : ℕ) where
  one_outcome : (f g : Figures) (a b : Result Verdict Refusal) → IsOutcome times arrows M D f a → IsOutcome times arrows M D g b → (f ≡ g) × (a ≡ b)
  unfolding IsOutcome
  one_outcome f g (Ok a) (Ok b) p q =
      let e = one_figures times arrows M D f g p.1 q.1 in
      (e, ap Ok (one_verdict f.s M D a b p.2 (rw (← e) at q.2)))
  one_outcome f g (Ok a) (Err b) p q = not_both (verdict_rows times arrows M D) b p.0 q.0
  one_outcome f g (Err a) (Ok b) p q = not_both (verdict_rows times arrows M D) a q.0 p.0
  one_outcome f g (Err a) (Err b) p q =
      (p.1 ∙ sym q.1, ap Err (one_refusal (verdict_rows times arrows M D) a b p.0 q.0))

  pub one_judged : (a b : Answer) → IsAnswer times arrows M D a → IsAnswer times arrows M D b → a ≡ b
  one_judged a b p q =
      let e = one_outcome a.figures b.figures a.outcome b.outcome p q in
      ap₂ (λ (f : Figures) (o : Result Verdict Refusal). record { figures = f; outcome = o }) e.0 e.1

-- ---- plans

module _ (times : List ℕ) (arrows : List (List ℕ)) (M : ℕ) where
  pub one_checked : (plan : List Entry) (a b : Result ℕ Refusal) → IsChecked times arrows M plan a → IsChecked times arrows M plan b → a ≡ b
  unfolding IsChecked
  one_checked plan (Ok E) (Ok F) p q = ap Ok (one_end times plan E F p.1 q.1)
  one_checked plan (Ok E) (Err b) p q = not_both (check_rows times arrows M plan) b p.0 q
  one_checked plan (Err a) (Ok F) p q = not_both (check_rows times arrows M plan) a q.0 p
  one_checked plan (Err a) (Err b) p q = ap Err (one_refusal (check_rows times arrows M plan) a b p q)

  -- the reply, and the lent row
  pub one_listed : (order : List ℕ) (before after other : List Entry) (a b : Result ℕ Refusal) → IsListed times arrows M order before after a
      → IsListed times arrows M order before other b
      → (a ≡ b) × (after ≡ other)
  unfolding IsListed IsChecked
  one_listed order before after other (Ok E) (Ok F) (p, h) (q, k) =
      let s = sound_list times arrows M order (length before) p in
      let e = one_list times arrows order M s.2 s.0 (take (length times) after) (take (length times) other) h.plan k.plan in (
        ap Ok (one_end times (take (length times) after) E F h.checked.1 (rw (← e) at k.checked.1)),
        sym (take-append-drop (length times) after) ∙ ap₂ (λ (x y : List Entry). x ++ y) e (h.past ∙ sym k.past) ∙ take-append-drop (length times) other,
      )
  one_listed order before after other (Ok E) (Err b) p q = not_both (list_rows times arrows M order (length before)) b p.0 q.0
  one_listed order before after other (Err a) (Ok F) p q = not_both (list_rows times arrows M order (length before)) a q.0 p.0
  one_listed order before after other (Err a) (Err b) p q =
      (ap Err (one_refusal (list_rows times arrows M order (length before)) a b p.0 q.0), p.1 ∙ sym q.1)

-- ---- the reader

one_reading : (reading : Reading) (times_room arrows_room : ℕ) (times_row times_row' : List ℕ) (arrows_row arrows_row' : List (List ℕ)) (a b : Result GraphSize Refusal)
    → IsReplyTo reading times_room arrows_room times_row arrows_row a → IsReplyTo reading times_room arrows_room times_row' arrows_row' b
    → (a ≡ b) × (times_row ≡ times_row') × (arrows_row ≡ arrows_row')
unfolding IsReplyTo
one_reading (refuse k) n m x y u v (Err a) (Err b) (p, h) (q, i) =
    (ap Err (p ∙ sym q), h.times_held ∙ sym i.times_held, h.arrows_held ∙ sym i.arrows_held)
one_reading (refuse k) n m x y u v (Err a) (Ok b) p q = absurd q
one_reading (refuse k) n m x y u v (Ok a) b p q = absurd p
one_reading (graph times arrows) n m x y u v (Err a) (Err b) (p, h) (q, i) =
    (ap Err (one_refusal (time_and_arrow_rows times arrows) a b p q), h.times_held ∙ sym i.times_held, h.arrows_held ∙ sym i.arrows_held)
one_reading (graph times arrows) n m x y u v (Err a) (Ok b) p q = not_both (time_and_arrow_rows times arrows) a q.0 p.0
one_reading (graph times arrows) n m x y u v (Ok a) (Err b) p q = not_both (time_and_arrow_rows times arrows) b p.0 q.0
one_reading (graph times arrows) n m x y u v (Ok a) (Ok b) (p, s, t, h) (q, s', t', i) = (
  ap₂ (λ (c d : ℕ). Ok (record { subtasks = c; arrows = d })) (s ∙ sym s') (t ∙ sym t'),
  h.times_held ∙ sym i.times_held,
  h.arrows_held
      ∙ sym i.arrows_held,
)

-- the reply, and both rows
pub one_read : (times_room arrows_room : ℕ) (text : List ℕ) (times_row times_row' : List ℕ) (arrows_row arrows_row' : List (List ℕ)) (a b : Result GraphSize Refusal)
    → IsRead times_room arrows_room text times_row arrows_row a → IsRead times_room arrows_room text times_row' arrows_row' b
    → (a ≡ b) × (times_row ≡ times_row') × (arrows_row ≡ arrows_row')
one_read times_room arrows_room text = one_reading (read_text times_room arrows_room text) times_room arrows_room

-- ---- the writer: the reply, and the lent room

pub one_written : (times : List ℕ) (arrows : List (List ℕ)) (before after other : List ℕ) (a b : Result ℕ Refusal)
    → IsWritten times arrows before after a → IsWritten times arrows before other b → (a ≡ b) × (after ≡ other)
unfolding IsWritten
one_written times arrows before after other (Ok k) (Ok l) (p, n, h) (q, m, i) =
    let e : k ≡ l = n ∙ sym m in
    (ap Ok e, h ∙ ap (λ (c : ℕ). stg_text times arrows ++ drop c before) e ∙ sym i)
one_written times arrows before after other (Ok k) (Err b) p q = not_both (write_rows times arrows (length before)) b p.0 q.0
one_written times arrows before after other (Err a) (Ok l) p q = not_both (write_rows times arrows (length before)) a q.0 p.0
one_written times arrows before after other (Err a) (Err b) p q =
    (ap Err (one_refusal (write_rows times arrows (length before)) a b p.0 q.0), p.1 ∙ sym q.1)

-- ---- the joins: the reply, and both rows

pub one_joined : (a b g : Graph) (times₀ times times' : List ℕ) (arrows₀ arrows arrows' : List (List ℕ)) (x y : Result GraphSize Refusal)
    → IsJoined a b g times₀ arrows₀ times arrows x → IsJoined a b g times₀ arrows₀ times' arrows' y
    → (x ≡ y) × (times ≡ times') × (arrows ≡ arrows')
unfolding IsJoined
one_joined a b g times₀ times times' arrows₀ arrows arrows' (Ok c) (Ok d) (p, n, m, h, i) (q, n', m', h', i') =
    let e : c.subtasks ≡ d.subtasks = n ∙ sym n' in
    let f : c.arrows ≡ d.arrows = m ∙ sym m' in (
      ap₂ (λ (k l : ℕ). Ok (record { subtasks = k; arrows = l })) e f,
      h ∙ ap (λ (k : ℕ). g.times ++ drop k times₀) e ∙ sym h',
      i ∙ ap (λ (k : ℕ). g.arrows ++ drop k arrows₀) f ∙ sym i',
    )
one_joined a b g times₀ times times' arrows₀ arrows arrows' (Ok c) (Err r) p q =
    not_both (join_rows a b g (length times₀) (length arrows₀)) r p.0 q.0
one_joined a b g times₀ times times' arrows₀ arrows arrows' (Err r) (Ok d) p q =
    not_both (join_rows a b g (length times₀) (length arrows₀)) r q.0 p.0
one_joined a b g times₀ times times' arrows₀ arrows arrows' (Err r) (Err s) (p, h, i) (q, h', i') =
    (ap Err (one_refusal (join_rows a b g (length times₀) (length arrows₀)) r s p q), h ∙ sym h', i ∙ sym i')
