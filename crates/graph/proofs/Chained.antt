-- The chains of arrows: how they grow by an arrow, and how a walk goes along one. Assumes nothing.
use Rattle.std.proofs.Common.{◌≡◌, refl, sym, ap, ◌∙◌, ◌≢◌, List, ℕ, ◌+◌, ◌-◌, ◌≤◌, ◌<◌, arith, length, get_or, set, replicate, length-set, below_more}
use Rattle.std.proofs.Math.Logic.{by_cases}
use Rattle.std.proofs.Math.Decide.{ℕ_discrete, dec_le}
use Rattle.std.proofs.lemmas.List.{length-replicate, get_or-replicate}
use Rattle.terms.specs.Graphs.{Among, from_of, to_of}
use Rattle.graph.specs.Chains.{Tidy, Last, Chains}
use Rattle.theory.proofs.Stores.{read_set}

last_none : (end : ℕ → ℕ) (v x : ℕ) → x ≡ 0 → Last end v 0 x
last_none end v x e = record {
  within = omega arith;
  gap = λ k _ l _. omega (arith, l);
  here = λ l. absurd (omega (arith, l));
}

pub chains_none : (end : ℕ → ℕ) (first next : List ℕ) → first ≡ replicate 257 0 → length next ≡ 2048 → Chains end first next 0
chains_none end first next e l = record {
  long_first = ap length e ∙ length-replicate {A = ℕ} 257 0;
  long_next = l;
  start = λ v b. last_none end v _ (ap (λ (l : List ℕ). get_or l v 0) e ∙ get_or-replicate {A = ℕ} 257 v 0 0 b);
  step = λ k b. absurd (omega (arith, b));
}

last_here : (end : ℕ → ℕ) (i : ℕ) → Last end (end i) (i + 1) (i + 1)
last_here end i = record {
  within = omega arith;
  gap = λ k a b _. omega (arith, a, b);
  here = λ _. ap end (omega arith);
}

last_more : (end : ℕ → ℕ) (v i x : ℕ) → ¬ (end i ≡ v) → Last end v i x → Last end v (i + 1) x
last_more end v i x n l = record {
  within = omega arith;
  gap = λ k a b. below_more (λ k. x ≤ k → ¬ (end k ≡ v)) i (λ k b a. l.gap k a b) (λ _. n) k b a;
  here = l.here;
}

pub chains_more : (end : ℕ → ℕ) (first next : List ℕ) (i v : ℕ) → v ≡ end i → v < 257 → i < 2048
    → Chains end first next i → Chains end (set first v (i + 1)) (set next i (get_or first v 0)) (i + 1)
chains_more end first next i v e b bi ch =
    let lv : v < length first = omega (arith, ch.long_first) in
    let li : i < length next = omega (arith, ch.long_next) in
    record {
      long_first = length-set first v _ ∙ ch.long_first;
      long_next = length-set next i _ ∙ ch.long_next;
      start = λ w lw. read_set (λ x. Last end w (i + 1) x) first v (i + 1) w lv
          (λ q. rw (q ∙ e) (last_here end i))
          (λ q. last_more end w i _ (λ z. q (sym z ∙ sym e)) (ch.start w lw));
      step = below_more (λ k. Last end (end k) k (get_or (set next i (get_or first v 0)) k 0)) i
          (λ k l. read_set (λ x. Last end (end k) k x) next i _ k li (λ q. absurd (omega (arith, q, l))) (λ _. ch.step k l))
          (read_set (λ x. Last end (end i) i x) next i _ i li (λ _. rw (← e) (ch.start v b)) (λ q. absurd (q refl)));
    }

-- the ends of an arrow are within the tables
pub to_small : {n : ℕ} {arrows : List (List ℕ)} (tidy : Tidy n arrows) (k v : ℕ) → k < length arrows → v ≡ to_of arrows k → v < 257
to_small tidy k v l e = omega (arith, (tidy.to_in k l).high, tidy.subtasks)

-- ---- along the chain of the arrows into v

-- c is a position of it, and 0 is its end
pub record Along (arrows : List (List ℕ)) (v c : ℕ) : Type 0 where
  pub within : c ≤ length arrows
  pub here : 0 < c → to_of arrows (c - 1) ≡ v

-- the arrow at position c comes from u and goes to v
pub record Looks (n : ℕ) (arrows : List (List ℕ)) (v c u : ℕ) : Type 0 where
  pub some : 1 ≤ c
  pub few : c ≤ 2048
  pub inside : c - 1 < length arrows
  pub begins : u ≡ from_of arrows (c - 1)
  pub arrives : to_of arrows (c - 1) ≡ v
  pub from_is : Among 1 n u
  pub to_is : Among 1 n v
  pub from_small : u < 257

module _ {n : ℕ} {arrows : List (List ℕ)} {v c u : ℕ} where
  pub looks : Tidy n arrows → Along arrows v c → c ≢ 0 → u ≡ from_of arrows (c - 1) → Looks n arrows v c u
  looks tidy at h e =
      let l : c - 1 < length arrows = omega (arith, at.within, h) in
      let to = at.here (omega (arith, h)) in
      let from_is : Among 1 n u = rw e (tidy.from_in (c - 1) l) in
      record {
        some = omega (arith, h);
        few = omega (arith, at.within, tidy.few);
        inside = l;
        begins = e;
        arrives = to;
        from_is = from_is;
        to_is = rw to at (tidy.to_in (c - 1) l);
        from_small = omega (arith, from_is.high, tidy.subtasks);
      }

  module _ {first next : List ℕ} (chains : Chains (to_of arrows) first next (length arrows)) (at : Looks n arrows v c u) where
    last : Last (to_of arrows) (to_of arrows (c - 1)) (c - 1) (get_or next (c - 1) 0)
    last = chains.step (c - 1) at.inside

    pub along_next : Along arrows v (get_or next (c - 1) 0)
    along_next = record { within = omega (arith, last.within, at.inside); here = λ l. last.here l ∙ at.arrives }

    pub next_less : get_or next (c - 1) 0 < c
    next_less = omega (arith, last.within, at.some)

    -- an arrow into v that is not before the next position was passed, or is the present one
    pub passed_now : {A : Type 0} (k : ℕ) → get_or next (c - 1) 0 ≤ k → to_of arrows k ≡ v → (c ≤ k → A) → (k ≡ c - 1 → from_of arrows k ≡ u → A) → A
    passed_now k a e passed present = by_cases (dec_le c k) passed
        (λ b. by_cases (ℕ_discrete k (c - 1))
        (λ d. present d (ap (λ (y : ℕ). from_of arrows y) d ∙ sym at.begins))
        (λ d. absurd (last.gap k a (omega (arith, b, d)) (e ∙ sym at.arrives))))

-- where it begins
pub along_begin : {arrows : List (List ℕ)} {v x : ℕ} → Last (to_of arrows) v (length arrows) x → Along arrows v x
along_begin last = record { within = last.within; here = last.here }
