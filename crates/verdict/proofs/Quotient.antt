-- The load is the quotient of the two whole numbers, rounded once: neither cast changes its number. Assumes nothing.
use Rattle.std.proofs.Common.{ℕ, ◌*◌, ◌^◌, ◌<◌, ◌≡◌, sym, ap, ◌∙◌, subst, true, false, arith, mul_assoc, mul_comm, mul-pos, mul-one, le_of_lt, ne_eqb, T, ltb→lt}
use lib.IntN.{pos}
use lib.Ieee.{Float, nan, inf, fin, Format, binary32, round, div, of_int}
use lib.Ieee.Exact.{HasValue}
use lib.Ieee.Back.{round_whole}
use lib.Ieee.Positive.{num, den, positive, den_pos, positive_of_value, value→cross}
use lib.Ieee.Scale.{round_same}

div_is : (f : Format) (x y : Float) → T (positive x) → T (positive y) → div f x y ≡ round f false (num x * den y) (num y * den x)
unfolding div
div_is f nan y p q = absurd p
div_is f (inf s) y p q = absurd p
div_is f (fin true m e) y p q = absurd p
div_is f (fin false m e) nan p q = absurd q
div_is f (fin false m e) (inf t) p q = absurd q
div_is f (fin false m e) (fin true n d) p q = absurd q
div_is f (fin false m e) (fin false n d) p q = rw (ne_eqb n 0 (λ z. absurd (omega (arith, ltb→lt 0 n q))))

-- a whole number of at most 24 binary digits is its own float
whole : (n : ℕ) → n < 2 ^ 24 → HasValue (of_int binary32 (pos n)) false n 1
unfolding of_int
whole n h = round_whole binary32 false n (le_of_lt h)

cross : (x dx y dy c m : ℕ) → x ≡ c * dx → y ≡ m * dy → x * dy * m ≡ c * (y * dx)
cross x dx y dy c m p q =
    ap (λ (z : ℕ). z * dy * m) p
    ∙ mul_assoc (c * dx) dy m
    ∙ mul_assoc c dx (dy * m)
    ∙ ap (λ (z : ℕ). c * z) (mul_comm dx (dy * m) ∙ ap (λ (z : ℕ). z * dx) (mul_comm dy m ∙ sym q))

pub rounded_once : (c m : ℕ) → 0 < c → c < 2 ^ 24 → 0 < m → m < 2 ^ 24
    → div binary32 (of_int binary32 (pos c)) (of_int binary32 (pos m)) ≡ round binary32 false c m
rounded_once c m hc kc hm km =
    let x = of_int binary32 (pos c) in
    let y = of_int binary32 (pos m) in
    let vx = whole c kc in
    let vy = whole m km in
    let px = positive_of_value x c 1 vx hc in
    let py = positive_of_value y m 1 vy hm in
    let ex : num x ≡ c * den x = sym (mul-one (num x)) ∙ value→cross x c 1 vx in
    let ey : num y ≡ m * den y = sym (mul-one (num y)) ∙ value→cross y m 1 vy in
    div_is binary32 x y px py
    ∙ round_same binary32 false (num x * den y) (num y * den x) c m (mul-pos (subst (λ (z : ℕ). 0 < z) (sym ey) (mul-pos hm (den_pos y))) (den_pos x)) hm
    (cross (num x) (den x) (num y) (den y) c m ex ey)
