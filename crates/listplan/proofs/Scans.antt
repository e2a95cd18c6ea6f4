-- The scans over the processors and over the places of the order, turn by turn. Assumes nothing.
use Rattle.std.proofs.Common.{◌≡◌, ◌≢◌, refl, ap, ◌∙◌, List, Bool, true, false, None, Some, ℕ, ◌+◌, ◌-◌, ◌*◌, ◌/◌, ◌≤◌, ◌<◌, min, length, get_or, set, take, drop, length-set, length-take, length-drop, arith, below_more}
use Rattle.std.proofs.Math.Decide.{dec_le, ℕ_discrete}
use Rattle.std.proofs.Math.Logic.{by_cases}
use Rattle.std.specs.List.{list_any}
use Rattle.std.proofs.lemmas.List.{get_or-take, get_or-drop}
use Rattle.std.proofs.lemmas.List.Folds.{list_any_at}
use Rattle.terms.specs.Graphs.{Among}
use Rattle.theory.specs.First.{NoneBelow, FirstBelow}
use Rattle.listplan.specs.Tables.{Grouped}
use Rattle.listplan.specs.Making.{IsMarked, IsFree, IsDue, Soonest, FirstMark}
use Rattle.listplan.proofs.Bits.{read_bit, none_true}

-- ---- whatever is looked for

pub none_yet : {IsSo : ℕ → Type 0} {n : ℕ} → NoneBelow IsSo n 0
none_yet = record { within = omega arith; none = λ y l. absurd (omega arith) }

pub none_more : {IsSo : ℕ → Type 0} {n x : ℕ} → NoneBelow IsSo n x → x < n → ¬ IsSo x → NoneBelow IsSo n (x + 1)
none_more {IsSo} {n} {x} h l d = record { within = omega arith; none = below_more (λ y. ¬ IsSo y) x h.none d }

pub found : {IsSo : ℕ → Type 0} {n x : ℕ} → NoneBelow IsSo n x → IsSo x → FirstBelow IsSo n x
found h e = record { before = h; here = λ _. e }

-- ---- the processors

-- the first is 1
pub none_free : {W : List ℕ} {n : ℕ} → 1 ≤ n → NoneBelow (IsFree W) n 1
none_free l = record { within = l; none = λ p b f. omega (arith, f.one) }

-- the soonest end of the first k
pub soonest_one : {U : List ℕ} → Soonest U 1 1
soonest_one = record {
  within = record { low = omega arith; high = omega arith };
  least = λ q a. let e : q ≡ 1 = omega (arith, a.low, a.high) in rw e (omega arith);
  first = λ q a l. absurd (omega (arith, a.low));
}

module _ {U : List ℕ} {k p : ℕ} (h : Soonest U k p) where
  below : {q : ℕ} → Among 1 (k + 1) q → q ≢ k + 1 → Among 1 k q
  below a d = record { low = a.low; high = omega (arith, a.high) }

  pub soonest_new : get_or U (k + 1) 0 < get_or U p 0 → Soonest U (k + 1) (k + 1)
  soonest_new l = record {
    within = record { low = omega arith; high = omega arith };
    least = λ q a. by_cases (ℕ_discrete q (k + 1)) (λ e. rw e (omega arith)) (λ d. omega (arith, h.least q (below a d)));
    first = λ q a m. omega (arith, h.least q (below a (omega arith)));
  }

  pub soonest_still : get_or U p 0 ≤ get_or U (k + 1) 0 → Soonest U (k + 1) p
  soonest_still l = record {
    within = record { low = h.within.low; high = omega (arith, h.within.high) };
    least = λ q a. by_cases (ℕ_discrete q (k + 1)) (λ e. rw e l) (λ d. h.least q (below a d));
    first = λ q a m. h.first q (below a (omega (arith, h.within.high))) m;
  }

  -- it is the first with an end by then
  pub soonest_due : FirstBelow (IsDue U (get_or U p 0)) (k + 1) p
  soonest_due = record {
    before = record {
      within = omega (arith, h.within.high);
      none = λ q l d. omega (arith, h.first q (record { low = d.one; high = omega (arith, h.within.high) }) l, d.by);
    };
    here = λ _. record { one = h.within.low; by = omega arith };
  }

-- ---- the places of the order

-- none of the first x is marked; x may have passed n
pub record Unmarked (R : List Bool) (x : ℕ) : Type 0 where
  pub none : (y : ℕ) → y < x → y < 256 → get_or R y false ≢ true

pub unmarked_below : {R : List Bool} {n low : ℕ} → NoneBelow (IsMarked R) n low → Unmarked R low
unmarked_below h = record { none = λ y l _. h.none y l }

pub unmarked_more : {R : List Bool} {x : ℕ} → Unmarked R x → get_or R x false ≢ true → Unmarked R (x + 1)
unmarked_more {R} {x} h d = record { none = λ y l m. by_cases (ℕ_discrete y x) (λ e. rw e d) (λ e. h.none y (omega arith) m) }

pub unmarked_group : {R G : List Bool} {x : ℕ} → Grouped R G → Unmarked R x → get_or G (x / 16) false ≡ false → Unmarked R (x / 16 * 16 + 16)
unmarked_group {R} {G} {x} g h z = record {
  none = λ y l m. by_cases (dec_le x y)
      (λ b. let e : y / 16 ≡ x / 16 = omega arith in g.none y m (rw e z))
      (λ b. h.none y (omega arith) m);
}

pub marked_here : {R : List Bool} {n x : ℕ} → n ≤ 256 → x < n → Unmarked R x → get_or R x false ≡ true → FirstMark R n (Some x)
unfolding FirstMark
marked_here b l h e = (l, record { before = record { within = omega arith; none = λ y m. h.none y m (omega arith) }; here = λ _. e })

pub none_marked : {R : List Bool} {n x : ℕ} → n ≤ 256 → n ≤ x → Unmarked R x → FirstMark R n None
unfolding FirstMark
none_marked b l h = record { within = omega arith; none = λ y m. h.none y (omega arith) (omega arith) }

-- place x is marked
pub marked_low : (R : List Bool) {n low x : ℕ} → x < length R → NoneBelow (IsMarked R) n low → NoneBelow (IsMarked (set R x true)) n (min low x)
marked_low R {n} {low} {x} l h = record {
  within = omega (arith, h.within);
  none = λ y m. read_bit (λ k. k ≢ true) R x true y l (λ e. absurd (omega arith)) (λ _. h.none y (omega arith));
}

-- the mark of the first place that has one was taken off
pub unmarked_low : (R : List Bool) {n x : ℕ} → x < length R → x < n → NoneBelow (IsMarked R) n x → NoneBelow (IsMarked (set R x false)) n (x + 1)
unmarked_low R {n} {x} l b h = record {
  within = omega arith;
  none = λ y m. read_bit (λ k. k ≢ true) R x false y l (λ _. none_true refl) (λ d. h.none y (omega arith));
}

-- ---- the groups

module _ {R G : List Bool} {x : ℕ} (l : x < 256) (e : length R ≡ 256) (g : Grouped R G) where
  room : x < length R
  room = omega arith

  pub grouped_marked : Grouped (set R x true) (set G (x / 16) true)
  grouped_marked = record {
    long = length-set G (x / 16) true ∙ g.long;
    none = λ y b. read_bit (λ k. k ≡ false → get_or (set R x true) y false ≢ true) G (x / 16) true (y / 16) (omega (arith, g.long))
        (λ _ z. absurd (none_true z refl))
        (λ d z. read_bit (λ k. k ≢ true) R x true y room (λ q. absurd (d (ap (λ (k : ℕ). k / 16) q))) (λ _. g.none y b z));
  }

  -- no mark is new
  fewer : (z : ℕ) → get_or R z false ≢ true → get_or (set R x false) z false ≢ true
  fewer z h = read_bit (λ k. k ≢ true) R x false z room (λ _. none_true refl) (λ _. h)

  -- the group may have another
  pub grouped_still : Grouped (set R x false) G
  grouped_still = record { long = g.long; none = λ z m q. fewer z (g.none z m q) }

  -- it has none
  pub grouped_last : NoneBelow (IsMarked R) 256 x → ((z : ℕ) → x < z → z < x / 16 * 16 + 16 → get_or (set R x false) z false ≢ true)
      → Grouped (set R x false) (set G (x / 16) false)
  grouped_last before after = record {
    long = length-set G (x / 16) false ∙ g.long;
    none = λ z b. read_bit (λ k. k ≡ false → get_or (set R x false) z false ≢ true) G (x / 16) false (z / 16) (omega (arith, g.long))
        (λ q _. inside z q) (λ q f. fewer z (g.none z b f));
  }
    where
      inside : (z : ℕ) → z / 16 ≡ x / 16 → get_or (set R x false) z false ≢ true
      inside z q = by_cases (dec_le (x + 1) z)
          (λ a. after z (omega arith) (omega arith))
          (λ a. read_bit (λ k. k ≢ true) R x false z room (λ _. none_true refl) (λ d. before.none z (omega arith)))

-- a piece of the row in which none is marked
pub no_mark : (p : Bool → Bool) → p true ≡ true → (R : List Bool) (a n : ℕ) → a + n ≤ length R → list_any p (take n (drop a R)) ≡ false
    → (z : ℕ) → a ≤ z → z < a + n → get_or R z false ≢ true
no_mark p sees R a n l none z low high marked =
    let i : ℕ = z - a in
    let at : a + i ≡ z = omega arith in
    let inside : i < n = omega arith in
    let long : i < length (take n (drop a R)) = simp (length-take, length-drop) (omega arith) in
    let here : get_or (take n (drop a R)) i false ≡ true =
    get_or-take n (drop a R) i false inside ∙ get_or-drop a R i false ∙ ap (λ (y : ℕ). get_or R y false) at ∙ marked in
    none_true none (list_any_at p (take n (drop a R)) i false long (ap p here ∙ sees))
