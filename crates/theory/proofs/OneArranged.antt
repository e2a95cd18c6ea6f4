-- No second reply, and no second pair of lent rows, satisfies the statement over an arrangement. Assumes nothing.
use Rattle.std.proofs.Common.{◌≡◌, refl, sym, ap, ap₂, ◌∙◌, List, ◌++◌, ℕ, zero, suc, ◌+◌, ◌-◌, ◌≤◌, ◌<◌, arith, length, get_or, take, drop, take-append-drop, ext_get_or, get_or-take, length-take-le}
use Rattle.std.proofs.Math.Logic.{by_cases}
use Rattle.std.proofs.Math.Decide.{dec_le}
use Rattle.terms.specs.Graphs.{Among}
use Rattle.terms.specs.Arrangements.{stretch, row_of, Begins, Arranged}
use Rattle.terms.specs.Refusals.{arrange_rows}
use Rattle.terms.specs.Replies.{IsArranged}
use Rattle.theory.proofs.Answers.{one_refusal, not_both}
use Rattle.theory.proofs.Accepted.{sound_arrange}
use Rattle.theory.proofs.Ascending.{stretch_length, stretch_same}
use Rattle.std.specs.Prelude.{Result, Ok, Err}
use Rattle.terms.specs.declared.Refusal.{Refusal}

-- going back from the last begin none is above it
pub begin_within : {n a : ℕ} {begins : List ℕ} → Begins n a begins → (i j : ℕ) → i + j ≡ n → get_or begins i 0 ≤ a
begin_within {n} {a} {begins} b i zero e =
    let all : i ≡ n = omega (arith, e) in
    omega (arith, b.last, ap (λ (k : ℕ). get_or begins k 0) all)
begin_within {n} {a} {begins} b i (suc j) e =
    let before : suc i - 1 ≡ i = omega arith in
    omega (
      arith,
      begin_within b (suc i) j (omega (arith, e)),
      b.rises (suc i) (record { low = omega arith; high = omega (arith, e) }),
      ap (λ (k : ℕ). get_or begins k 0) before,
    )

-- ---- the same wanted rows stand in the same places

rises : {wanted : ℕ → List ℕ} {n a : ℕ} {begins numbers : List ℕ} → Arranged wanted n a begins numbers → (j : ℕ) → j < n
    → get_or begins j 0 ≤ get_or begins (suc j) 0
rises r j l =
    let z : suc j - 1 ≡ j = omega arith in
    rw z at (r.stand.rises (suc j) (record { low = omega arith; high = l }))

module _ {wanted : ℕ → List ℕ} {n a : ℕ} {begins numbers begins' numbers' : List ℕ}
    (h : Arranged wanted n a begins numbers) (i : Arranged wanted n a begins' numbers') where
  -- the row of j + 1, the same in both
  same_row : (j : ℕ) → j < n → stretch numbers (get_or begins j 0) (get_or begins (suc j) 0 - get_or begins j 0)
      ≡ stretch numbers' (get_or begins' j 0) (get_or begins' (suc j) 0 - get_or begins' j 0)
  unfolding row_of
  same_row j l =
      let z : suc j - 1 ≡ j = omega arith in
      let b : Among 1 n (suc j) = record { low = omega arith; high = l } in
      rw z at (h.rows (suc j) b ∙ sym (i.rows (suc j) b))

  begin_same : (j : ℕ) → j ≤ n → get_or begins j 0 ≡ get_or begins' j 0
  begin_same zero l = h.stand.first ∙ sym i.stand.first
  begin_same (suc j) l =
      let long = sym (stretch_length numbers (get_or begins j 0) _) ∙ ap length (same_row j l) ∙ stretch_length numbers' (get_or begins' j 0) _ in
      omega (arith, long, begin_same j (omega (arith, l)), rises h j l, rises i j l)

  number_same : (m x : ℕ) → m ≤ n → x < get_or begins m 0 → get_or numbers x 0 ≡ get_or numbers' x 0
  number_same zero x l b = absurd (omega (arith, b, h.stand.first))
  number_same (suc m) x l b = by_cases (dec_le (get_or begins m 0) x)
      (λ c. stretch_same numbers numbers' (get_or begins m 0) (get_or begins (suc m) 0 - get_or begins m 0) x row c (omega (arith, b, c)))
      (λ c. number_same m x (omega (arith, l)) (omega (arith, c)))
    where
      row : stretch numbers (get_or begins m 0) (get_or begins (suc m) 0 - get_or begins m 0)
          ≡ stretch numbers' (get_or begins m 0) (get_or begins (suc m) 0 - get_or begins m 0)
      row = same_row m l ∙ sym (ap₂ (λ (f g : ℕ). stretch numbers' f (g - f)) (begin_same m (omega (arith, l))) (begin_same (suc m) l))

-- rows with the same numbers in front and the same rest
front_same : (l l' : List ℕ) (m : ℕ) → length l ≡ length l' → m ≤ length l → ((x : ℕ) → x < m → get_or l x 0 ≡ get_or l' x 0) → drop m l ≡ drop m l' → l ≡ l'
front_same l l' m e b h d = sym (take-append-drop m l) ∙ ap₂ (λ (x y : List ℕ). x ++ y) front d ∙ take-append-drop m l'
  where
    long : length (take m l) ≡ m
    long = length-take-le m l b

    front : take m l ≡ take m l'
    front = ext_get_or 0 (take m l) (take m l') (long ∙ sym (length-take-le m l' (omega (arith, b, e))))
        (λ x c. let k : x < m = omega (arith, c, long) in get_or-take m l x 0 k ∙ h x k ∙ sym (get_or-take m l' x 0 k))

-- the reply, and both rows
pub one_arranged : (wanted : ℕ → List ℕ) (times : List ℕ) (arrows : List (List ℕ)) (begins₀ numbers₀ begins numbers begins' numbers' : List ℕ) (r r' : Result (Unit {0}) Refusal)
    → IsArranged wanted times arrows begins₀ numbers₀ begins numbers r → IsArranged wanted times arrows begins₀ numbers₀ begins' numbers' r'
    → (r ≡ r') × (begins ≡ begins') × (numbers ≡ numbers')
unfolding IsArranged
one_arranged wanted times arrows begins₀ numbers₀ begins numbers begins' numbers' (Ok _) (Ok _) (p, h) (q, i) =
    let room = sound_arrange times arrows (length begins₀) (length numbers₀) p in (
      refl,
      front_same begins begins' (suc (length times)) (h.same_begins ∙ sym i.same_begins) (omega (arith, room.for_begins, h.same_begins))
          (λ x l. begin_same h.arranged i.arranged x (omega (arith, l))) (h.past_begins ∙ sym i.past_begins),
      front_same numbers numbers' (length arrows) (h.same_numbers ∙ sym i.same_numbers) (omega (arith, room.for_numbers, h.same_numbers))
          (λ x l. number_same h.arranged i.arranged (length times) x (omega arith) (omega (arith, l, h.arranged.stand.last)))
          (h.past_numbers ∙ sym i.past_numbers),
    )
one_arranged wanted times arrows begins₀ numbers₀ begins numbers begins' numbers' (Ok _) (Err b) p q =
    not_both (arrange_rows times arrows (length begins₀) (length numbers₀)) b p.0 q.0
one_arranged wanted times arrows begins₀ numbers₀ begins numbers begins' numbers' (Err a) (Ok _) p q =
    not_both (arrange_rows times arrows (length begins₀) (length numbers₀)) a q.0 p.0
one_arranged wanted times arrows begins₀ numbers₀ begins numbers begins' numbers' (Err a) (Err b) (p, e, d) (q, e', d') =
    (ap Err (one_refusal (arrange_rows times arrows (length begins₀) (length numbers₀)) a b p q), e ∙ sym e', d ∙ sym d')
