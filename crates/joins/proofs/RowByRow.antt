-- The arrows out of n subtasks put down row by row. Assumes nothing.
use Rattle.std.proofs.Common.{◌≡◌, refl, sym, ap, ap₂, ◌∙◌, List, [], ◌∷◌, ◌++◌, map, ℕ, zero, suc, ◌+◌, ◌-◌, ◌≤◌, ◌<◌, arith, add_assoc, length, get_or, take, drop, length-append, length-drop}
use mathlib.Core.List.{map-map}
use Rattle.std.proofs.lemmas.List.{map-append, length-map, length-take-le, get_or-take, get_or-drop}
use Rattle.std.proofs.lemmas.List.Edits.{sets}
use Rattle.std.proofs.Math.Seq.{length-sets}
use Rattle.terms.specs.Graphs.{Among}
use Rattle.terms.specs.Arrangements.{for_each, out_of, stretch, row_of}
use Rattle.terms.specs.Joins.{moved}
use Rattle.theory.specs.Joined.{or_else}
use Rattle.theory.proofs.Stores.{sets_append}
use Rattle.theory.proofs.Ascending.{stretch_part}
use Rattle.joins.specs.Puts.{Puts, run_of, rows_arrows, SmallRows, Moves}

-- some, and others behind them
pub puts_then : {A : Type 0} {before between after : List A} {at k next : ℕ} {xs ys : List A} → Puts before at xs between k → Puts between k ys after next
    → Puts before at (xs ++ ys) after next
puts_then {A} {before} {at = at} {xs = xs} {ys} p q = record {
  behind = omega (arith, p.behind, q.behind, length-append xs ys);
  stands = q.stands ∙ ap₂ (λ (row : List A) (i : ℕ). sets row i ys) p.stands p.behind ∙ sym (sets_append before at xs ys);
}

-- ---- one row more

run_moved : (up v : ℕ) (row : List ℕ) → map (moved up) (map (λ i. out_of i v) row) ≡ run_of (up + v) up row
unfolding run_of
run_moved up v row = map-map (moved up) (λ i. out_of i v) row

run_behind : (from up n : ℕ) (targets : List ℕ) → run_of from up (map (λ j. n + j) targets) ≡ run_of from (up + n) targets
unfolding run_of
run_behind from up n [] = refl
run_behind from up n (j ∷ targets) =
    ap₂ (λ (y : ℕ) (l : List (List ℕ)). (from ∷ y ∷ []) ∷ l) (sym (add_assoc up n j)) (run_behind from up n targets)

module _ (up n : ℕ) (targets : List ℕ) (row : ℕ → List ℕ) where
  -- the arrows of the row of v
  next_run : ℕ → List (List ℕ)
  next_run v = run_of (up + v) up (or_else (map (λ j. n + j) targets) (row v))

  rows_more : (m : ℕ) → rows_arrows up n targets row (suc m) ≡ rows_arrows up n targets row m ++ next_run (suc m)
  unfolding rows_arrows for_each next_run
  rows_more m =
      let wanted = or_else (map (λ j. n + j) targets) (row (suc m)) in
      map-append (moved up) (for_each (λ v. or_else (map (λ j. n + j) targets) (row v)) out_of m) (map (λ i. out_of i (suc m)) wanted)
      ∙ ap (λ (l : List (List ℕ)). rows_arrows up n targets row m ++ l) (run_moved up (suc m) wanted)

  rows_fewer : (m d : ℕ) → length (rows_arrows up n targets row m) ≤ length (rows_arrows up n targets row (d + m))
  rows_fewer m zero = let e : 0 + m ≡ m = omega arith in rw e (omega arith)
  rows_fewer m (suc d) =
      let e : suc d + m ≡ suc (d + m) = omega arith in
      rw e (omega (
        arith,
        rows_fewer m d,
        ap length (rows_more (d + m)),
        length-append (rows_arrows up n targets row (d + m)) (next_run (suc (d + m))),
      ))

-- ---- the loop

pub rows_none : (up n : ℕ) (targets : List ℕ) (row : ℕ → List ℕ) (before : List (List ℕ)) (at : ℕ) → Puts before at (rows_arrows up n targets row 0) before at
unfolding rows_arrows for_each
rows_none up n targets row before at = record { behind = omega arith; stands = refl }

-- what is known where the row of v comes next, between these places of the table
pub record NextRow (before : List (List ℕ)) (at up n : ℕ) (targets begins numbers : List ℕ) (arrows : List (List ℕ)) (k v begin end : ℕ) : Type 0 where
  pub so_far : Puts before at (rows_arrows up n targets (row_of begins numbers) (v - 1)) arrows k
  pub rows : SmallRows n begins numbers
  pub moves : Moves up n targets
  pub room : at + length (rows_arrows up n targets (row_of begins numbers) n) ≤ length before
  pub is : Among 1 n v
  pub begin_is : begin ≡ get_or begins (v - 1) 0
  pub end_is : end ≡ get_or begins v 0

else_some : (targets row : List ℕ) → ¬ (length row ≡ 0) → or_else targets row ≡ row
else_some targets [] d = absurd (d refl)
else_some targets (x ∷ row) d = refl

else_none : (targets row : List ℕ) → length row ≡ 0 → or_else targets row ≡ targets
else_none targets [] e = refl
else_none targets (x ∷ row) e = absurd (omega (arith, e))

module _ {before : List (List ℕ)} {at up n : ℕ} {targets begins numbers : List ℕ} {arrows : List (List ℕ)} {k v begin end : ℕ}
    (next : NextRow before at up n targets begins numbers arrows k v begin end) where
  abbrev row : ℕ → List ℕ
  row = row_of begins numbers

  -- its part of the table
  abbrev pub part : List ℕ
  part = take (end - begin) (drop begin numbers)

  pub rises : begin ≤ end
  rises = omega (arith, next.rows.rises v next.is, next.begin_is, next.end_is)

  pub inside : end ≤ length numbers
  inside = omega (arith, next.rows.inside v next.is, next.end_is)

  size : length part ≡ end - begin
  size = length-take-le (end - begin) (drop begin numbers) (omega (arith, length-drop begin numbers, inside))

  -- no number is too large
  pub from_small : up + v < 65536
  from_small = omega (arith, next.moves.few, next.is.high)

  pub part_small : (i : ℕ) → i < length part → up + get_or part i 0 < 65536
  part_small i l = omega (
    arith,
    get_or-take (end - begin) (drop begin numbers) i 0 (omega (arith, l, size)),
    get_or-drop begin numbers i 0,
    next.rows.small v (begin + i) next.is (omega (arith, next.begin_is)) (omega (arith, l, size, next.end_is)),
    next.moves.few,
  )

  pub targets_small : (i : ℕ) → i < length targets → up + n + get_or targets i 0 < 65536
  targets_small i l = omega (arith, next.moves.small i l, next.moves.few)

  row_is : row v ≡ part
  unfolding row_of
  row_is = ap₂ (λ (f t : ℕ). stretch numbers f (t - f)) (sym next.begin_is) (sym next.end_is)
      ∙ stretch_part numbers begin (end - begin) (omega (arith, rises, inside))

  -- the arrows that come next
  here : List (List ℕ)
  here = next_run up n targets row v

  all_more : rows_arrows up n targets row v ≡ rows_arrows up n targets row (v - 1) ++ here
  unfolding here
  all_more =
      let s : suc (v - 1) ≡ v = omega (arith, next.is.low) in
      rw s at (rows_more up n targets row (v - 1))

  here_room : k + length here ≤ length arrows
  here_room =
      let d = n - v in
      let e : d + v ≡ n = omega (arith, next.is.high) in
      omega (
        arith,
        next.room,
        rw e at (rows_fewer up n targets row v d),
        ap length all_more,
        length-append (rows_arrows up n targets row (v - 1)) here,
        next.so_far.behind,
        ap length next.so_far.stands,
        length-sets before at (rows_arrows up n targets row (v - 1)),
      )

  here_put : {after : List (List ℕ)} → after ≡ sets arrows k here → Puts before at (rows_arrows up n targets row v) after (k + length here)
  here_put e = rw all_more (puts_then next.so_far (record { behind = refl; stands = e }))

  run_length : (from to : ℕ) (numbers : List ℕ) → length (run_of from to numbers) ≡ length numbers
  unfolding run_of
  run_length from to numbers = length-map numbers _

  -- where the row is empty
  module _ (none : length part ≡ 0) where
    here_targets : here ≡ run_of (up + v) (up + n) targets
    unfolding here next_run
    here_targets =
        ap (λ (l : List ℕ). run_of (up + v) up (or_else (map (λ j. n + j) targets) l)) row_is
        ∙ ap (run_of (up + v) up) (else_none (map (λ j. n + j) targets) part none)
        ∙ run_behind (up + v) up n targets

    targets_length : length here ≡ length targets
    targets_length = ap length here_targets ∙ run_length (up + v) (up + n) targets

    pub targets_room : k + length targets ≤ length arrows
    targets_room = omega (arith, here_room, targets_length)

    pub targets_put : {after : List (List ℕ)} → after ≡ sets arrows k (run_of (up + v) (up + n) targets)
        → Puts before at (rows_arrows up n targets row v) after (k + length targets)
    targets_put {after} e = rw targets_length at (here_put {after = after} (rw here_targets e))

  -- and where it is not
  module _ (some : ¬ (length part ≡ 0)) where
    here_row : here ≡ run_of (up + v) up part
    unfolding here next_run
    here_row =
        ap (λ (l : List ℕ). run_of (up + v) up (or_else (map (λ j. n + j) targets) l)) row_is
        ∙ ap (run_of (up + v) up) (else_some (map (λ j. n + j) targets) part some)

    row_length : length here ≡ length part
    row_length = ap length here_row ∙ run_length (up + v) up part

    pub row_room : k + length part ≤ length arrows
    row_room = omega (arith, here_room, row_length)

    pub row_put : {after : List (List ℕ)} → after ≡ sets arrows k (run_of (up + v) up part)
        → Puts before at (rows_arrows up n targets row v) after (k + length part)
    row_put {after} e = rw row_length at (here_put {after = after} (rw here_row e))
