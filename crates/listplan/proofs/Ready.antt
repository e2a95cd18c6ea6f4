-- The tables say who is ready and which processor is free. Assumes nothing.
use Rattle.std.proofs.Common.{◌≡◌, refl, ◌⊎◌, inl, inr, List, Bool, None, ℕ, ◌≤◌, ◌<◌, arith, length, get_or}
use Rattle.std.proofs.Math.Decide.{dec_le}
use Rattle.std.proofs.Math.Logic.{by_cases}
use Rattle.terms.specs.Graphs.{Among, IsSubtask, from_of, to_of}
use Rattle.terms.specs.Plans.{processor_of, start_of, end_of, Placed, ReadyAt, FreeAt, IdleAt}
use Rattle.terms.specs.declared.Entry.{Entry}
use Rattle.theory.proofs.Accepted.{from_subtask}
use Rattle.theory.proofs.ListRule.{SoFar, by_rule}
use Rattle.theory.proofs.ListExists.{holds}
use Rattle.listplan.specs.Making.{IsJob, Unended, waits, runs, Holding, unended, uncounted, Open, Making, IsFree, FirstMark, FirstOf}

-- what has ended has gone
ended_placed : (P : List Entry) (W : List ℕ) (j : ℕ) → ¬ Unended P W j → 1 ≤ processor_of P j
ended_placed P W j h = by_cases (dec_le 1 (processor_of P j)) (λ l. l) (λ l. absurd (h (waits (omega arith))))

module _ {times : List ℕ} {arrows : List (List ℕ)} {order : List ℕ} {M : ℕ} {first next rank : List ℕ} (job : IsJob times arrows order M first next rank)
    {t c : ℕ} {L : List ℕ} {R : List Bool} {U W : List ℕ} {P : List Entry} (mk : Making times arrows order M t c L R U W P) where
  pub so_far : SoFar times arrows M t P
  so_far = by_rule times arrows M job.graph order job.is_order mk.made

  pub open_ready : (k : ℕ) → Open arrows P W c k → ReadyAt times arrows P k t
  open_ready k o = record {
    served = λ i w.
        let h : ¬ Unended P W i = λ u. o.served w.place w.inside w.arrives (unended (rw w.begins u)) in
        (omega (arith, ended_placed P W i h), omega (arith, mk.holders.ended i (from_subtask job.graph w) h));
    waiting = inr (λ b. omega (arith, o.unplaced));
  }

  pub is_free : (p : ℕ) → IsFree W p → FreeAt times P p t
  is_free p f k s e r = omega (arith, mk.holders.ended k s gone, r.unended)
    where
      gone : ¬ Unended P W k
      gone (waits y) = omega (arith, f.one, e)
      gone (runs y) =
          let q : processor_of P k ≡ p = e in
          let w : get_or W p 0 ≡ k = rw q at y in
          omega (arith, s.low, f.nobody)

  -- a subtask that has gone holds a processor of 1..M
  pub in_range : (k : ℕ) → IsSubtask times k → 1 ≤ processor_of P k → Among 1 M (processor_of P k)
  in_range k s b = record { low = b; high = omega (arith, so_far.range k s (omega (arith))) }

  -- one that is still there ends when its processor does
  pub still_there : (k : ℕ) → IsSubtask times k → 1 ≤ processor_of P k → get_or W (processor_of P k) 0 ≡ k → end_of times P k ≡ get_or U (processor_of P k) 0
  still_there k s b e = rw e at (mk.holders.holder (processor_of P k) (in_range k s b) (omega (arith, s.low, e))).ends

  -- where nothing more ends at t
  module _ (later : (p : ℕ) → Among 1 M p → t < get_or U p 0) where
    pub is_busy : (p : ℕ) → Among 1 M p → ¬ IsFree W p → ¬ FreeAt times P p t
    is_busy p a b f =
        let one : 1 ≤ get_or W p 0 = by_cases (dec_le 1 (get_or W p 0)) (λ l. l) (λ l. absurd (b (record { one = a.low; nobody = omega arith }))) in
        let h = mk.holders.holder p a one in
        let k = get_or W p 0 in
        f k h.is_subtask (h.on) (record {
          placed = omega (arith, h.on, a.low);
          begun = omega (arith, mk.begun k h.is_subtask);
          unended = omega (arith, h.ends, later p a);
        })

    pub ready_open : c ≡ 0 → (k : ℕ) → IsSubtask times k → ReadyAt times arrows P k t → Open arrows P W c k
    ready_open z k s r = record { unplaced = wait r.waiting; served = λ a l e. served a l e }
      where
        wait : (t < start_of P k) ⊎ (¬ Placed P k) → processor_of P k ≡ 0
        wait (inl x) = absurd (omega (arith, mk.begun k s))
        wait (inr x) = by_cases (dec_le 1 (processor_of P k)) (λ y. absurd (x (omega (arith)))) (λ y. omega arith)

        served : (a : ℕ) → a < length arrows → to_of arrows a ≡ k → ¬ Holding arrows P W c a
        served a l e (uncounted m f) = omega arith
        served a l e (unended u) = go u (r.served (from_of arrows a) (record { place = a; inside = l; begins = refl; arrives = e }))
          where
            go : Unended P W (from_of arrows a) → ¬ (Placed P (from_of arrows a) × (end_of times P (from_of arrows a) ≤ t))
            go (waits y) d = omega (arith, d.0)
            go (runs y) d =
                let i = from_of arrows a in
                let q = (job.graph.named a l).0 in
                let b : 1 ≤ processor_of P i = omega (arith, d.0) in
                omega (arith, d.1, still_there i q b y, later (processor_of P i) (in_range i q b))

    -- the two ways in which nothing can go
    pub still : c ≡ 0 → FirstMark R (length order) None ⊎ FirstOf M (IsFree W) None → ¬ IdleAt times arrows M P t
    unfolding FirstMark FirstOf
    still z (inl none) d =
        let y = holds times order job.is_order d.subtask d.is_subtask in
        let o = ready_open z (get_or order y.0 0) (rw y.2 d.is_subtask) (rw y.2 d.ready) in
        none.none y.0 y.1 (mk.marks.marked y.0 y.1 o)
    still z (inr none) d = is_busy d.processor d.in_range (none.none d.processor (omega (arith, d.in_range.high))) d.free
