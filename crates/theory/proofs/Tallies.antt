-- How many of the subtasks 1..n have a mark of a kind: a kind gives 1 for the marks of that kind, 0 for the others. Assumes nothing.
use Rattle.std.proofs.Common.{◌≡◌, refl, ap, sym, ◌∙◌, List, ℕ, zero, suc, ◌+◌, ◌<◌, arith, length, get_or, set, get_or-set_same, get_or-set_other}
use Rattle.std.proofs.Math.Decide.{ℕ_discrete}
use Rattle.terms.specs.Graphs.{Among}

pub tally : (ℕ → ℕ) → List ℕ → ℕ → ℕ
tally kind marks zero = 0
tally kind marks (suc n) = kind (get_or marks (suc n) 0) + tally kind marks n

-- a store past n
tally_past : (kind : ℕ → ℕ) (marks : List ℕ) (p a n : ℕ) → n < p → tally kind (set marks p a) n ≡ tally kind marks n
unfolding tally
tally_past kind marks p a zero l = refl
tally_past kind marks p a (suc n) l =
    let e = ap kind (get_or-set_other marks p (suc n) a 0 (λ q. omega (arith, q, l))) in
    omega (arith, e, tally_past kind marks p a n (omega (arith, l)))

-- a store at one of 1..n
pub tally_set : (kind : ℕ → ℕ) (marks : List ℕ) (p a n : ℕ) → Among 1 n p → p < length marks
    → tally kind (set marks p a) n + kind (get_or marks p 0) ≡ tally kind marks n + kind a
unfolding tally
tally_set kind marks p a zero t l = absurd (omega (arith, t.low, t.high))
tally_set kind marks p a (suc n) t l = go (λ u. tally_set kind marks p a n u l) (ℕ_discrete p (suc n))
  where
    go : (Among 1 n p → tally kind (set marks p a) n + kind (get_or marks p 0) ≡ tally kind marks n + kind a)
        → Dec (p ≡ suc n) → tally kind (set marks p a) (suc n) + kind (get_or marks p 0) ≡ tally kind marks (suc n) + kind a
    go rest (yes e) =
        let x : kind (get_or (set marks p a) (suc n) 0) ≡ kind a = ap (λ (y : ℕ). kind (get_or (set marks p a) y 0)) (sym e)
        ∙ ap kind (get_or-set_same marks p a 0 l) in
        let y : kind (get_or marks p 0) ≡ kind (get_or marks (suc n) 0) = ap (λ (y : ℕ). kind (get_or marks y 0)) e in
        omega (arith, x, y, tally_past kind marks p a n (omega (arith, e)))
    go rest (no q) =
        let x = ap kind (get_or-set_other marks p (suc n) a 0 (λ z. q (sym z))) in
        let u : Among 1 n p = record { low = t.low; high = omega (arith, t.high, q) } in
        omega (arith, x, rest u)

pub tally_none : (kind : ℕ → ℕ) (marks : List ℕ) (n : ℕ) → ((v : ℕ) → Among 1 n v → kind (get_or marks v 0) ≡ 0) → tally kind marks n ≡ 0
unfolding tally
tally_none kind marks zero h = refl
tally_none kind marks (suc n) h =
    omega (
      arith,
      h (suc n) (record {
        low =
            omega arith;
        high = omega arith;
      }),
      tally_none kind marks n (λ v t. h v (record { low = t.low; high = omega (arith, t.high) })),
    )

pub tally_all : (kind : ℕ → ℕ) (marks : List ℕ) (n : ℕ) → ((v : ℕ) → Among 1 n v → kind (get_or marks v 0) ≡ 1) → tally kind marks n ≡ n
unfolding tally
tally_all kind marks zero h = refl
tally_all kind marks (suc n) h =
    omega (
      arith,
      h (suc n) (record {
        low =
            omega arith;
        high = omega arith;
      }),
      tally_all kind marks n (λ v t. h v (record { low = t.low; high = omega (arith, t.high) })),
    )
