-- The line of a task, number by number: what is put and what remains make up the line, and so do what is counted and what remains. Assumes nothing.
use Rattle.std.proofs.Common.{◌≡◌, refl, sym, ap, ◌∙◌, List, [], ◌∷◌, ◌++◌, append_assoc, ℕ, suc, ◌+◌, ◌*◌, ◌≤◌, ◌<◌, arith, length, get_or, drop, length-append}
use Rattle.std.proofs.Common.{drop_of_length-le, drop-cons}
use Rattle.terms.specs.Writings.{decimal, further, line, with_count}
use Rattle.room.specs.Puts.{HasRoom, Stands, Put}
use Rattle.room.proofs.Remaining.{Remains, remains_all, remains_same, remains_room, remains_stands, remains_put, remains_none}
use Rattle.writer.specs.Lines.{task_line}

-- ---- the numbers that follow

further_next : (row : List ℕ) (i : ℕ) → i < length row → further (drop i row) ≡ (32 ∷ decimal (get_or row i 0)) ++ further (drop (i + 1) row)
unfolding further
further_next row i h =
    let e : suc i ≡ i + 1 = omega arith in
    ap further (drop-cons row i 0 h) ∙ ap (λ (k : ℕ). (32 ∷ decimal (get_or row i 0)) ++ further (drop k row)) e

further_none : (row : List ℕ) (i : ℕ) → length row ≤ i → further (drop i row) ≡ []
unfolding further
further_none row i h = ap further (drop_of_length-le row h)

-- ---- a line

-- what follows the task's number; and its time
abbrev after_task : ℕ → List ℕ → List ℕ
after_task time row = (32 ∷ decimal time) ++ ((32 ∷ decimal (length row)) ++ (further row ++ (10 ∷ [])))

abbrev after_time : List ℕ → List ℕ
after_time row = (32 ∷ decimal (length row)) ++ (further row ++ (10 ∷ []))

parts : (task time : ℕ) (row : List ℕ) → task_line task time row ≡ decimal task ++ after_task time row
unfolding task_line line further
parts task time row =
    append_assoc (decimal task) (further (time ∷ length row ∷ row)) (10 ∷ [])
    ∙ ap (λ (w : List ℕ). decimal task ++ w)
    (append_assoc (32 ∷ decimal time) (further (length row ∷ row)) (10 ∷ [])
    ∙ ap (λ (w : List ℕ). (32 ∷ decimal time) ++ w) (append_assoc (32 ∷ decimal (length row)) (further row) (10 ∷ [])))

-- its number stands: there is room for its time
module _ (task time : ℕ) (row : List ℕ) {l m : List ℕ} {at a : ℕ} (h : HasRoom l at (task_line task time row)) (p : Put l at (decimal task) m a) where
  task_stands : Remains l at (task_line task time row) m a (after_task time row)
  task_stands = remains_put (after_task time row) (remains_same (parts task time row) (remains_all l at (task_line task time row) h)) p

  pub time_room : HasRoom m a (32 ∷ decimal time)
  time_room = remains_room (32 ∷ decimal time) (after_time row) task_stands

  -- and its time: there is room for how many numbers follow; and then these remain
  module _ {k : List ℕ} {b : ℕ} (q : Stands m a (32 ∷ decimal time) k b) where
    time_stands : Remains l at (task_line task time row) k b (after_time row)
    time_stands = remains_stands (after_time row) task_stands q

    pub count_room : HasRoom k b (32 ∷ decimal (length row))
    count_room = remains_room (32 ∷ decimal (length row)) (further row ++ (10 ∷ [])) time_stands

    pub count_stands : {j : List ℕ} {c : ℕ} → Stands k b (32 ∷ decimal (length row)) j c → Remains l at (task_line task time row) j c (further row ++ (10 ∷ []))
    count_stands r = remains_stands (further row ++ (10 ∷ [])) time_stands r

-- ---- the numbers of its row, and LF

module _ (row : List ℕ) where
  -- those from place i on remain
  pub record NumbersRemain (l : List ℕ) (at : ℕ) (text : List ℕ) (k i : ℕ) : Type 0 where
    pub remain : Remains l at (further row ++ (10 ∷ [])) text k (further (drop i row) ++ (10 ∷ []))
    pub inside : i ≤ length row

  pub numbers_all : {l m bytes : List ℕ} {at a : ℕ} → Remains l at bytes m a (further row ++ (10 ∷ [])) → NumbersRemain m a m a 0
  numbers_all {m = m} {a = a} r = record { remain = remains_all m a (further row ++ (10 ∷ [])) r.room; inside = omega arith }

  next : {l text : List ℕ} {at k i x : ℕ} → i < length row → x ≡ get_or row i 0 → NumbersRemain l at text k i
      → Remains l at (further row ++ (10 ∷ [])) text k ((32 ∷ decimal x) ++ (further (drop (i + 1) row) ++ (10 ∷ [])))
  next {i = i} {x} h e left =
      let number : further (drop i row) ≡ (32 ∷ decimal x) ++ further (drop (i + 1) row)
      = further_next row i h ∙ ap (λ (y : ℕ). (32 ∷ decimal y) ++ further (drop (i + 1) row)) (sym e) in
      remains_same (ap (λ (w : List ℕ). w ++ (10 ∷ [])) number ∙ append_assoc (32 ∷ decimal x) (further (drop (i + 1) row)) (10 ∷ [])) left.remain

  pub numbers_room : {l text : List ℕ} {at k i : ℕ} (x : ℕ) → i < length row → x ≡ get_or row i 0 → NumbersRemain l at text k i → HasRoom text k (32 ∷ decimal x)
  numbers_room {i = i} x h e left = remains_room (32 ∷ decimal x) (further (drop (i + 1) row) ++ (10 ∷ [])) (next h e left)

  pub numbers_next : {l text m : List ℕ} {at k a i : ℕ} (x : ℕ) → i < length row → x ≡ get_or row i 0 → NumbersRemain l at text k i
      → Stands text k (32 ∷ decimal x) m a → NumbersRemain l at m a (i + 1)
  numbers_next {i = i} x h e left s = record { remain = remains_stands (further (drop (i + 1) row) ++ (10 ∷ [])) (next h e left) s; inside = omega arith }

  pub numbers_end : {l₀ bytes l text m : List ℕ} {at₀ at k a i : ℕ} → Remains l₀ at₀ bytes l at (further row ++ (10 ∷ [])) → length row ≤ i
      → NumbersRemain l at text k i → Put text k (10 ∷ []) m a → Stands l₀ at₀ bytes m a
  numbers_end {m = m} {a = a} {i = i} r h left p =
      let end = remains_same (ap (λ (w : List ℕ). w ++ (10 ∷ [])) (further_none row i h)) left.remain in
      r.all m a (remains_none (remains_put [] end p))

-- ---- its length

module _ (task time : ℕ) (row : List ℕ) where
  -- the numbers below place i are counted, and all else of the line
  pub record NumbersCounted (size i : ℕ) : Type 0 where
    pub all : size + length (further (drop i row)) ≡ length (task_line task time row)
    pub most : size ≤ 33 + 11 * i
    pub inside : i ≤ length row

  pub counted_none : (a b c : ℕ) → (a ≡ length (decimal task)) × (1 ≤ a) × (a ≤ 10) → (b ≡ length (decimal time)) × (1 ≤ b) × (b ≤ 10)
      → (c ≡ length (decimal (length row))) × (1 ≤ c) × (c ≤ 10) → NumbersCounted (3 + a + b + c) 0
  counted_none a b c (ea, _, ha) (eb, _, hb) (ec, _, hc) = record {
    all = omega (
      arith,
      ea,
      eb,
      ec,
      ap length (parts task time row),
      length-append (decimal task) (after_task time row),
      length-append (32 ∷ decimal time) (after_time row),
      length-append (32 ∷ decimal (length row)) (further row ++ (10 ∷ [])),
      length-append (further row) (10 ∷ []),
    );
    most = omega (arith, ha, hb, hc);
    inside = omega arith;
  }

  pub counted_next : {size i : ℕ} (x a : ℕ) → i < length row → x ≡ get_or row i 0 → (a ≡ length (decimal x)) × (1 ≤ a) × (a ≤ 10) → NumbersCounted size i
      → NumbersCounted (size + (1 + a)) (i + 1)
  counted_next {size} {i} x a h e (ea, _, ha) counted = record {
    all = omega (
      arith,
      counted.all,
      ea,
      ap (λ (y : ℕ). length (decimal y)) e,
      ap length (further_next row i h),
      length-append (32 ∷ decimal (get_or row i 0)) (further (drop (i + 1) row)),
    );
    most = omega (arith, counted.most, ha);
    inside = omega arith;
  }

  pub counted_all : {size i : ℕ} → length row ≤ i → length row ≤ 2048 → NumbersCounted size i → (size ≡ length (task_line task time row)) × (size ≤ 30000)
  counted_all {size} {i} h few counted = (
    omega (arith, counted.all, ap length (further_none row i h)),
    omega (arith, counted.most, counted.inside, few),
  )

-- ---- a subtask's row, as its line shows it

-- the count of a row and the row, where it has a predecessor; else the one number 0
pub count_none : (row : List ℕ) → length row ≡ 0 → 1 ∷ 0 ∷ [] ≡ with_count row
unfolding with_count
count_none [] e = refl
count_none (x ∷ row) e = absurd (omega arith)

pub count_some : (row : List ℕ) → ¬ (length row ≡ 0) → length row ∷ row ≡ with_count row
unfolding with_count
count_some [] n = absurd (n refl)
count_some (x ∷ row) n = refl
