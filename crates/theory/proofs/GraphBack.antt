-- The lines of a graph, written and read again: the same times, and the arrows row by row. Assumes nothing.
use Rattle.std.proofs.Common.{◌≡◌, refl, sym, ap, ap₂, ◌∙◌, subst, inl, inr, true, List, [], ◌∷◌, ◌++◌, map, append_assoc, append-nil, ℕ, suc, ◌+◌, ◌≤◌, ◌<◌, arith, eqb, ltb, length, get_or, drop, ne_eqb, le-leb, lt-ltb, eq-eqb}
use Rattle.terms.specs.Graphs.{Among}
use Rattle.terms.specs.Texts.{all_pass}
use Rattle.terms.specs.Readings.{Reading, graph, is_size, is_first, is_shape, is_task, is_entry_dummy, is_exit_dummy, arrows_into, with_task, trailer}
use Rattle.terms.specs.Readings.{exit_line, task_lines, entry_line, read_lines}
use Rattle.terms.specs.Arrangements.{for_each, into}
use Rattle.terms.specs.Writings.{line, with_count, subtask_lines, exit_numbers}
use Rattle.theory.proofs.Ascending.{Has}
use Rattle.theory.proofs.LinesBack.{numbers_line, EightDigits, eight_none, eight_cons, proper_line}

-- ---- the arrows of the rows

-- from the row of j on, one row for each time
unfoldable pub rows_from : (ℕ → List ℕ) → ℕ → List ℕ → List (List ℕ)
rows_from row j [] = []
rows_from row j (t ∷ ts) = map (λ i. into i j) (row j) ++ rows_from row (j + 1) ts

each_from : (row : ℕ → List ℕ) (j : ℕ) (ts : List ℕ) → for_each row into (j + length ts) ≡ for_each row into j ++ rows_from row (j + 1) ts
unfolding for_each rows_from
each_from row j [] = let e : j + 0 ≡ j = omega arith in ap (λ (k : ℕ). for_each row into k) e ∙ sym (append-nil (for_each row into j))
each_from row j (t ∷ ts) =
    let e : j + suc (length ts) ≡ suc j + length ts = omega arith in
    let s : suc j ≡ j + 1 = omega arith in
    ap (λ (k : ℕ). for_each row into k) e
    ∙ each_from row (suc j) ts
    ∙ append_assoc (for_each row into j) (map (λ i. into i (suc j)) (row (suc j))) (rows_from row (suc j + 1) ts)
    ∙ ap (λ (k : ℕ). for_each row into j ++ (map (λ i. into i k) (row k) ++ rows_from row (k + 1) ts)) s

-- they are those of all rows, from the first on
pub each_rows : (row : ℕ → List ℕ) (ts : List ℕ) → rows_from row 1 ts ≡ for_each row into (length ts)
unfolding for_each
each_rows row ts = let e : 0 + length ts ≡ length ts = omega arith in sym (each_from row 0 ts) ∙ ap (λ (k : ℕ). for_each row into k) e

-- ---- the numbers of a subtask's line

eqb_same : (x : ℕ) → eqb x x ≡ true
eqb_same x = eq-eqb x x refl

shape_task : (j t : ℕ) (ps : List ℕ) → is_shape j (j ∷ t ∷ with_count ps) ≡ true
unfolding is_shape with_count
shape_task j t [] = rw (eqb_same j)
shape_task j t (p ∷ ps) = rw (eqb_same j, eqb_same (length (p ∷ ps)))

-- a row of at most n numbers, each of 1..n
pub record Fits (n : ℕ) (ps : List ℕ) : Type 0 where
  pub short : length ps ≤ n
  pub among : (p : ℕ) → Has ps p → Among 1 n p

-- none of them is 0, so each gives an arrow
into_named : (n j : ℕ) (ps : List ℕ) → ((p : ℕ) → Has ps p → Among 1 n p) → arrows_into j ps ≡ map (λ i. into i j) ps
unfolding arrows_into Has
into_named n j [] h = refl
into_named n j (p ∷ ps) h =
    rw (ne_eqb p 0 (λ e. omega (arith, e, (h p (inl refl)).low))) (ap (λ (l : List (List ℕ)). into p j ∷ l) (into_named n j ps (λ q k. h q (inr k))))

-- with its count before it, and with 0 where it is empty, a row gives its own arrows
into_counted : {n : ℕ} (j : ℕ) (ps : List ℕ) → Fits n ps → arrows_into j (drop 1 (with_count ps)) ≡ map (λ i. into i j) ps
unfolding with_count arrows_into
into_counted j [] h = refl
into_counted j (p ∷ ps) h = into_named _ j (p ∷ ps) h.among

-- they are tasks before the exit dummy, as its line asks
all_below : (n : ℕ) (ps : List ℕ) → ((p : ℕ) → Has ps p → Among 1 n p) → all_pass (λ p. ltb p (n + 1)) ps ≡ true
unfolding all_pass Has
all_below n [] h = refl
all_below n (p ∷ ps) h = rw (lt-ltb p (n + 1) (omega (arith, (h p (inl refl)).high))) (all_below n ps (λ q k. h q (inr k)))

-- ---- one line read

read_task : (j left : ℕ) (xs : List ℕ) (later : List (List ℕ)) → EightDigits xs → is_shape j xs ≡ true → get_or xs 1 0 ≤ 65535
    → task_lines j (suc left) (line xs ∷ later) ≡ with_task (get_or xs 1 0) (arrows_into j (drop 3 xs)) (task_lines (j + 1) left later)
unfolding task_lines is_task
read_task j left xs later h s l = rw (proper_line xs h, numbers_line xs, s, le-leb (get_or xs 1 0) 65535 l)

with_graph : (t : ℕ) (l : List (List ℕ)) (ts : List ℕ) (m : List (List ℕ)) → with_task t l (graph ts m) ≡ graph (t ∷ ts) (l ++ m)
unfolding with_task
with_graph t l ts m = refl

-- ---- all lines, of at most 256 subtasks

module _ (n : ℕ) (most : n ≤ 256) where
  eight_row : {ps : List ℕ} → Fits n ps → EightDigits ps
  eight_row h = record { small = λ x k. omega (arith, (h.among x k).high) }

  eight_counted : (ps : List ℕ) → Fits n ps → EightDigits (with_count ps)
  unfolding with_count
  eight_counted [] h = eight_cons (omega arith) (eight_cons (omega arith) eight_none)
  eight_counted (p ∷ ps) h = eight_cons (omega (arith, h.short)) (eight_row h)

  read_exit : (ps : List ℕ) → Fits n ps → exit_line (n + 1) (line (exit_numbers n ps) ∷ []) ≡ graph [] []
  unfolding exit_line is_task is_exit_dummy is_shape trailer exit_numbers
  read_exit ps h =
      let xs = (n + 1) ∷ 0 ∷ length ps ∷ ps in
      let small : EightDigits xs = eight_cons (omega arith) (eight_cons (omega arith) (eight_cons (omega (arith, h.short)) (eight_row h))) in
      rw (proper_line xs small, numbers_line xs, eqb_same (n + 1), eqb_same (length ps), all_below n ps h.among)

  module _ (row : ℕ → List ℕ) (fit : (j : ℕ) → Fits n (row j)) (lasts : List ℕ) (fit-lasts : Fits n lasts) where
    read_rest : (j : ℕ) (ts : List ℕ) → n + 1 ≡ j + length ts → ((i : ℕ) → i < length ts → get_or ts i 0 ≤ 65535)
        → task_lines j (length ts) (map line (subtask_lines row j ts ++ exit_numbers n lasts ∷ [])) ≡ graph ts (rows_from row j ts)
    unfolding subtask_lines rows_from task_lines
    read_rest j [] q h = let z : j ≡ n + 1 = omega arith in rw z (read_exit lasts fit-lasts)
    read_rest j (t ∷ ts) q h =
        let t16 : t ≤ 65535 = h 0 (omega arith) in
        let small : EightDigits (j ∷ t ∷ with_count (row j)) = eight_cons (omega arith) (eight_cons (omega arith) (eight_counted (row j) (fit j))) in
        read_task j (length ts) (j ∷ t ∷ with_count (row j)) _ small (shape_task j t (row j)) t16
        ∙ ap₂ (λ (l : List (List ℕ)) (reading : Reading). with_task t l reading)
        (into_counted j (row j) (fit j))
        (read_rest (j + 1) ts (omega arith) (λ i b. h (suc i) (omega (arith, b))))
        ∙ with_graph t (map (λ i. into i j) (row j)) ts (rows_from row (j + 1) ts)

    pub read_graph : (ts : List ℕ) → 1 ≤ n → n ≡ length ts → ((i : ℕ) → i < length ts → get_or ts i 0 ≤ 65535)
        → read_lines (map line ((n ∷ []) ∷ (0 ∷ 0 ∷ 0 ∷ []) ∷ subtask_lines row 1 ts ++ exit_numbers n lasts ∷ [])) ≡ graph ts (rows_from row 1 ts)
    unfolding read_lines is_first is_size entry_line is_task is_shape is_entry_dummy
    read_graph ts some e h =
        let first : EightDigits (n ∷ []) = eight_cons (omega arith) eight_none in
        let entry : EightDigits (0 ∷ 0 ∷ 0 ∷ []) = eight_cons (omega arith) (eight_cons (omega arith) (eight_cons (omega arith) eight_none)) in
        rw (proper_line (n ∷ []) first, numbers_line (n ∷ []), le-leb 1 n some, le-leb n 256 most)
        (rw (proper_line (0 ∷ 0 ∷ 0 ∷ []) entry, numbers_line (0 ∷ 0 ∷ 0 ∷ []))
        (subst (λ (k : ℕ). task_lines 1 k (map line (subtask_lines row 1 ts ++ exit_numbers n lasts ∷ [])) ≡ graph ts (rows_from row 1 ts)) (sym e)
        (read_rest 1 ts (omega arith) h)))
