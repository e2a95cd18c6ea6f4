-- Those that no arrow has at one side: marked arrow by arrow, put to the front of a row one by one; in an accepted graph they are those without
-- successors, or without predecessors. Assumes nothing.
use Rattle.std.proofs.Common.{◌≡◌, refl, sym, ap, ap₂, ◌∙◌, Bool, true, false, cond, List, [], ◌∷◌, ◌++◌, append-nil, ℕ, zero, suc, ◌+◌, ◌≤◌, ◌<◌, min, arith, eqb, length, get_or, set, take, drop, replicate, length-set, length-append, take-suc, drop-cons, take_at, get_or-set_same, get_or-set_other, eq-eqb, ne_eqb, eqb-true}
use Rattle.std.proofs.Math.Decide.{ℕ_discrete}
use Rattle.std.proofs.Math.Logic.{by_cases}
use Rattle.std.proofs.lemmas.List.{length-replicate, get_or-replicate, set_at}
use Rattle.std.proofs.Math.Seq.{take-length, append_snoc}
use Rattle.std.proofs.lemmas.Bool.{eqb-false}
use Rattle.terms.specs.Graphs.{from_of, to_of}
use Rattle.terms.specs.Arrangements.{has_arrow, passing, predecessors_of, successors_of, is_none, lasts_of, firsts_of}
use Rattle.theory.specs.Sound.{SoundGraph}
use Rattle.theory.proofs.Ascending.{has_none, has_some, passing_has, has_passing, passing_same}
use Rattle.theory.proofs.TextLengths.{passing_few}
use Rattle.theory.proofs.SortedArrows.{has_precedes, precedes_has}
use Rattle.arranged.specs.Sides.{end, end_of}
use Rattle.arranged.specs.declared.sides.Side.{Side}
use Rattle.arranged.specs.declared.sides.Side.TheVariants.{From, To}
use Rattle.arranged.specs.Free.{is_free, free_of, free_from, free_to, Marks, IsFront}

-- ---- one arrow more

never : (t : Bool) → cond t false false ≡ false
never true = refl
never false = refl

module _ (side : Side) (x : List ℕ) (v : ℕ) where
  free_met : (arrows : List (List ℕ)) → end side x ≡ v → is_free side (arrows ++ x ∷ []) v ≡ false
  unfolding is_free
  free_met [] e = rw (eq-eqb (end side x) v e)
  free_met (y ∷ arrows) e = ap (λ (t : Bool). cond (eqb (end side y) v) false t) (free_met arrows e) ∙ never (eqb (end side y) v)

  free_missed : (arrows : List (List ℕ)) → ¬ (end side x ≡ v) → is_free side (arrows ++ x ∷ []) v ≡ is_free side arrows v
  unfolding is_free
  free_missed [] n = rw (ne_eqb (end side x) v n)
  free_missed (y ∷ arrows) n = ap (λ (t : Bool). cond (eqb (end side y) v) false t) (free_missed arrows n)

-- ---- the marks, arrow by arrow

pub marks_none : (side : Side) (arrows : List (List ℕ)) → Marks side arrows 0 (replicate 258 true)
unfolding is_free
marks_none side arrows = record {
  long = length-replicate {A = Bool} 258 true;
  mark = λ v l. get_or-replicate {A = Bool} 258 v true false (omega (arith, l));
}

pub marks_more : {side : Side} {arrows : List (List ℕ)} {k : ℕ} {free : List Bool} (v at : ℕ) → k < length arrows → v ≡ end_of side arrows k → at ≡ min v 257
    → Marks side arrows k free → Marks side arrows (k + 1) (set free at false)
marks_more {side} {arrows} {k} {free} x at l e m marked = record {
  long = length-set free at false ∙ marked.long;
  mark = λ v b. by_cases (ℕ_discrete v at)
      (λ q. rw q (get_or-set_same free at false false (omega (arith, m, marked.long)))
      ∙ sym (ap (λ (row : List (List ℕ)). is_free side row v) more ∙ free_met side (get_or arrows k []) v (take k arrows) (sym e ∙ here v b q)))
      (λ n. get_or-set_other free at v false false n
      ∙ marked.mark v b
      ∙ sym (ap (λ (row : List (List ℕ)). is_free side row v) more
      ∙ free_missed side (get_or arrows k []) v (take k arrows) (λ z. n (there v b (e ∙ z)))));
}
  where
    more : take (k + 1) arrows ≡ take k arrows ++ get_or arrows k [] ∷ []
    more = let s : k + 1 ≡ suc k = omega arith in ap (λ (c : ℕ). take c arrows) s ∙ take-suc arrows k [] l

    here : (v : ℕ) → v < 257 → v ≡ at → x ≡ v
    here v b q = omega (arith, b, q, m)

    there : (v : ℕ) → v < 257 → x ≡ v → v ≡ at
    there v b q = omega (arith, b, q, m)

-- ---- those of 1..n that are marked, one by one

passing_also : (test : ℕ → Bool) (i : ℕ) → test (suc i) ≡ true → passing test (suc i) ≡ passing test i ++ suc i ∷ []
unfolding passing
passing_also test i e = rw e refl

passing_but : (test : ℕ → Bool) (i : ℕ) → test (suc i) ≡ false → passing test (suc i) ≡ passing test i
unfolding passing
passing_but test i e = rw e (append-nil (passing test i))

-- those of 1..i stand in front
pub record FrontTo (side : Side) (arrows : List (List ℕ)) (before list : List ℕ) (most count i : ℕ) : Type 0 where
  pub front : list ≡ passing (is_free side arrows) i ++ drop count before
  pub counted : count ≡ length (passing (is_free side arrows) i)
  pub fewer : count ≤ i
  pub few : i ≤ most
  pub long : length list ≡ 256

module _ {side : Side} {arrows : List (List ℕ)} {before : List ℕ} {most : ℕ} where
  pub front_none : length before ≡ 256 → FrontTo side arrows before before most 0 0
  unfolding passing
  front_none long = record { front = refl; counted = refl; fewer = omega arith; few = omega arith; long = long }

  module _ {list : List ℕ} {count i : ℕ} (was : length before ≡ 256) (far : FrontTo side arrows before list most count i) (small : most ≤ 256)
      {j : ℕ} (e : j ≡ suc i) (l : j ≤ most) where
    test : ℕ → Bool
    test = is_free side arrows

    -- j is one of them
    pub front_also : is_free side arrows j ≡ true → FrontTo side arrows before (set list count j) most (count + 1) j
    unfolding test
    front_also t =
        let next : passing test j ≡ passing test i ++ j ∷ [] = rw (← e) at (passing_also test i (rw (← e) t)) in
        let n : suc count ≡ count + 1 = omega arith in
        record {
          front = ap (λ (row : List ℕ). set row count j)
              (far.front ∙ ap (λ (row : List ℕ). passing test i ++ row) (drop-cons before count 0 (omega (arith, far.fewer, e, l, small, was))))
              ∙ set_at (passing test i) (get_or before count 0) (drop (suc count) before) j count (sym far.counted)
              ∙ sym (append_snoc (passing test i) j (drop (suc count) before))
              ∙ ap₂ (λ (front : List ℕ) (c : ℕ). front ++ drop c before) (sym next) n;
          counted = omega (arith, ap length next, length-append (passing test i) (j ∷ []), far.counted);
          fewer = omega (arith, far.fewer, e);
          few = l;
          long = length-set list count j ∙ far.long;
        }

    -- j is not
    pub front_but : is_free side arrows j ≡ false → FrontTo side arrows before list most count j
    unfolding test
    front_but t =
        let next : passing test j ≡ passing test i = rw (← e) at (passing_but test i (rw (← e) t)) in
        record {
          front = far.front ∙ ap (λ (front : List ℕ). front ++ drop count before) (sym next);
          counted = far.counted ∙ ap length (sym next);
          fewer = omega (arith, far.fewer, e);
          few = l;
          long = far.long;
        }

    -- as its mark says
    pub marked : {free : List Bool} → Marks side arrows (length arrows) free → get_or free j false ≡ is_free side arrows j
    marked marks = marks.mark j (omega (arith, l, small)) ∙ ap (λ (row : List (List ℕ)). is_free side row j) (take-length arrows)

  pub front_all : {list : List ℕ} {count : ℕ} (i : ℕ) → i ≡ most → FrontTo side arrows before list most count i → IsFront (free_of side arrows most) before list count
  unfolding free_of
  front_all i e far = rw (← e) (record { count = far.counted; row = far.front })

-- no second reply and no second row
pub one_front : {wanted before after after' : List ℕ} {k k' : ℕ} → IsFront wanted before after k → IsFront wanted before after' k' → (k ≡ k') × (after ≡ after')
one_front {wanted} {before} a b =
    let e = a.count ∙ sym b.count in
    (e, a.row ∙ ap (λ (c : ℕ). wanted ++ drop c before) e ∙ sym b.row)

-- ---- in an accepted graph

-- what it says of a number that it is free, or not
data Freedom (side : Side) (arrows : List (List ℕ)) (v : ℕ) : Bool → Type 0 where
  met : (place : ℕ) → place < length arrows → end_of side arrows place ≡ v → Freedom side arrows v false
  free : ((place : ℕ) → place < length arrows → ¬ (end_of side arrows place ≡ v)) → Freedom side arrows v true

module _ (side : Side) (v : ℕ) where
  none_further : (x : List ℕ) (arrows : List (List ℕ)) → ¬ (end side x ≡ v) → ((place : ℕ) → place < length arrows → ¬ (end_of side arrows place ≡ v))
      → (place : ℕ) → place < length (x ∷ arrows) → ¬ (end_of side (x ∷ arrows) place ≡ v)
  none_further x arrows n none zero l e = n e
  none_further x arrows n none (suc place) l e = none place (omega (arith, l)) e

  further : (x : List ℕ) (arrows : List (List ℕ)) (t s : Bool) → eqb (end side x) v ≡ t → Freedom side arrows v s
      → Freedom side (x ∷ arrows) v (cond t false s)
  further x arrows true s e f = met 0 (omega arith) (eqb-true (end side x) v e)
  further x arrows false false e (met place l q) = met (suc place) (omega (arith, l)) q
  further x arrows false true e (free none) = free (none_further x arrows (eqb-false (end side x) v e) none)

  freedom : (arrows : List (List ℕ)) → Freedom side arrows v (is_free side arrows v)
  unfolding is_free
  freedom [] = free (λ place l e. omega (arith, l))
  freedom (x ∷ arrows) = further x arrows (eqb (end side x) v) (is_free side arrows v) refl (freedom arrows)

-- the first k of a row are those that are wanted
pub record Leads (wanted list : List ℕ) (k : ℕ) : Type 0 where
  pub same : take k list ≡ wanted
  pub inside : k ≤ length list
  pub few : k ≤ 256

module _ {times : List ℕ} {arrows : List (List ℕ)} (g : SoundGraph times arrows) where
  abbrev n : ℕ
  n = length times

  last_free : (j : ℕ) (t : Bool) → Freedom From arrows j t → t ≡ is_none (successors_of n arrows j)
  unfolding end from_of
  last_free j t (met place l e) =
      let to = to_of arrows place in
      let here = precedes_has arrows j to (record { place = place; inside = l; begins = e; arrives = refl }) in
      sym (has_some (successors_of n arrows j) to (has_passing (λ i. has_arrow arrows j i) n to (g.named place l).1 here))
  last_free j t (free none) = sym (has_none (successors_of n arrows j)
      (λ i h. let w = has_precedes arrows j i (passing_has (λ i. has_arrow arrows j i) n i h).1 in none w.place w.inside w.begins))

  first_free : (j : ℕ) (t : Bool) → Freedom To arrows j t → t ≡ is_none (predecessors_of n arrows j)
  unfolding end to_of
  first_free j t (met place l e) =
      let from = from_of arrows place in
      let here = precedes_has arrows from j (record { place = place; inside = l; begins = refl; arrives = e }) in
      sym (has_some (predecessors_of n arrows j) from (has_passing (λ i. has_arrow arrows i j) n from (g.named place l).0 here))
  first_free j t (free none) = sym (has_none (predecessors_of n arrows j)
      (λ i h. let w = has_precedes arrows i j (passing_has (λ i. has_arrow arrows i j) n i h).1 in none w.place w.inside w.arrives))

  pub free_lasts : free_of From arrows n ≡ lasts_of n arrows
  unfolding free_of lasts_of
  free_lasts = passing_same (is_free From arrows) (λ j. is_none (successors_of n arrows j)) n (λ j _. last_free j (is_free From arrows j) (freedom From j arrows))

  pub free_firsts : free_of To arrows n ≡ firsts_of n arrows
  unfolding free_of firsts_of
  free_firsts = passing_same (is_free To arrows) (λ j. is_none (predecessors_of n arrows j)) n (λ j _. first_free j (is_free To arrows j) (freedom To j arrows))

  front_free : (side : Side) {before after : List ℕ} {k : ℕ} → IsFront (free_of side arrows (min n 256)) before after k → Leads (free_of side arrows n) after k
  unfolding free_of
  front_free side {before} {after} {k} front =
      let m = min n 256 in
      let few : m ≡ n = omega (arith, g.count.high) in record {
        same = ap (λ (row : List ℕ). take k row) front.row
            ∙ take_at (free_of side arrows m) (drop k before) k (sym front.count)
            ∙ ap (λ (i : ℕ). free_of side arrows i) few;
        inside = omega (arith, front.count, ap length front.row, length-append (free_of side arrows m) (drop k before));
        few = omega (arith, front.count, passing_few (is_free side arrows) m);
      }

  pub front_lasts : {before after : List ℕ} {k : ℕ} → IsFront (free_from arrows (min n 256)) before after k → Leads (lasts_of n arrows) after k
  front_lasts front = rw (← free_lasts) (front_free From front)

  pub front_firsts : {before after : List ℕ} {k : ℕ} → IsFront (free_to arrows (min n 256)) before after k → Leads (firsts_of n arrows) after k
  front_firsts front = rw (← free_firsts) (front_free To front)
