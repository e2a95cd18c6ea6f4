-- The conditions of docs/PLANNER.md over given numbers can be decided, by decisions that compute. Assumes nothing.
use Rattle.std.proofs.Common.{◌≡◌, refl, sym, ◌≢◌, ◌⊎◌, inl, inr, List, Bool, true, false, ℕ, zero, suc, ◌-◌, ◌≤◌, ◌<◌, arith, length, get_or, T}
use mathlib.Core.Logic.Dec
use Rattle.std.proofs.Math.Logic.{by_cases}
use Rattle.std.proofs.Math.Decide.{dec_le, dec_lt, ℕ_discrete}
use Rattle.terms.specs.Graphs.{Among, IsSubtask, from_of, to_of, Precedes}
use Rattle.terms.specs.Plans.{Placed, processor_of, start_of, end_of, RunsAt, ReadyAt, FreeAt, IdleAt}
use Rattle.terms.specs.ListRule.{IsOrder}
use Rattle.terms.specs.Refusals.{SomeSubtask, Repeats, StartsEarly, Share}
use Rattle.terms.specs.declared.Entry.{Entry}

-- ---- decisions in general

abbrev pub is_yes : {A : Type 0} → Dec A → Bool
is_yes (yes a) = true
is_yes (no h) = false

pub by_yes : {A : Type 0} (d : Dec A) → T (is_yes d) → A
by_yes (yes a) t = a
by_yes (no h) t = absurd t

-- decide a statement by another that is the same
unfoldable pub via : {A B : Type 0} → (A → B) → (B → A) → Dec A → Dec B
via to from (yes a) = yes (to a)
via to from (no h) = no (λ b. h (from b))

-- what is not denied holds
pub undenied : {A : Type 0} → Dec A → ¬ (¬ A) → A
undenied (yes a) h = a
undenied (no n) h = absurd (h n)

-- a statement under a condition
unfoldable pub dec_when : {A B : Type 0} → Dec A → Dec B → Dec (A → B)
dec_when (yes a) (yes b) = yes (λ x. b)
dec_when (yes a) (no h) = no (λ f. h (f a))
dec_when (no h) d = yes (λ x. absurd (h x))

-- one thing, or not another
unfoldable pub dec_or_not : {A B : Type 0} → Dec A → Dec B → Dec (A ⊎ (¬ B))
dec_or_not (yes a) d = yes (inl a)
dec_or_not (no h) (no g) = yes (inr g)
dec_or_not {A} {B} (no h) (yes b) = no neither
  where
    neither : A ⊎ (¬ B) → ⊥
    neither (inl a) = h a
    neither (inr g) = g b

-- the least place below n at which P holds
pub record Least (n : ℕ) (P : ℕ → Type 0) : Type 0 where
  pub place : ℕ
  pub inside : place < n
  pub holds : P place
  pub before : (v : ℕ) → v < place → ¬ P v

unfoldable pub seek : (n : ℕ) (P : ℕ → Type 0) → ((u : ℕ) → Dec (P u)) → Least n P ⊎ ((u : ℕ) → u < n → ¬ P u)
seek zero P dec = inr (λ u l. absurd (omega arith))
seek (suc n) P dec = go (seek n P dec) (dec n)
  where
    go : Least n P ⊎ ((u : ℕ) → u < n → ¬ P u) → Dec (P n) → Least (suc n) P ⊎ ((u : ℕ) → u < suc n → ¬ P u)
    go (inl s) d = inl (record { place = s.place; inside = omega (arith, s.inside); holds = s.holds; before = s.before })
    go (inr h) (yes p) = inl (record { place = n; inside = omega arith; holds = p; before = h })
    go (inr h) (no q) = inr (λ u l. by_cases (ℕ_discrete u n) (λ e. rw e q) (λ e. h u (omega arith)))

-- P at some place below n, at every place below n, for every j of 1..n
unfoldable pub dec_some : (n : ℕ) (P : ℕ → Type 0) → ((u : ℕ) → Dec (P u)) → Dec ((u : ℕ) × (u < n) × P u)
unfolding seek
dec_some n P dec = go (seek n P dec)
  where
    go : Least n P ⊎ ((u : ℕ) → u < n → ¬ P u) → Dec ((u : ℕ) × (u < n) × P u)
    go (inl s) = yes (s.place, s.inside, s.holds)
    go (inr h) = no (λ x. h x.0 x.1 x.2)

unfoldable pub dec_all : (n : ℕ) (P : ℕ → Type 0) → ((u : ℕ) → Dec (P u)) → Dec ((u : ℕ) → u < n → P u)
unfolding via dec_some Dec.not
dec_all n P dec = via
    (λ h u l. undenied (dec u) (λ x. h (u, l, x)))
    (λ f x. x.2 (f x.0 x.1))
    (Dec.not (dec_some n (λ u. ¬ P u) (λ u. Dec.not (dec u))))

unfoldable pub dec_each : (n : ℕ) (P : ℕ → Type 0) → ((j : ℕ) → Dec (P j)) → Dec ((j : ℕ) → Among 1 n j → P j)
unfolding via dec_all
dec_each n P dec = via
    (λ f j a. let e : suc (j - 1) ≡ j = omega (arith, a.low) in rw e at (f (j - 1) (omega (arith, a.low, a.high))))
    (λ f u l. f (suc u) (record { low = omega arith; high = omega arith }))
    (dec_all n (λ u. P (suc u)) (λ u. dec (suc u)))

-- ---- the words of the table

unfoldable pub dec_among : (a b n : ℕ) → Dec (Among a b n)
unfolding via Dec.and dec_le
dec_among a b n = via (λ h. record { low = h.0; high = h.1 }) (λ r. (r.low, r.high)) (Dec.and (dec_le a n) (dec_le n b))

unfoldable pub dec_some_subtask : (times : List ℕ) (P : ℕ → Type 0) → ((j : ℕ) → Dec (P j)) → Dec (SomeSubtask times P)
unfolding via dec_some
dec_some_subtask times P dec = via
    (λ x. record { subtask = suc x.0; is_subtask = record { low = omega arith; high = omega (arith, x.1) }; is_so = x.2 })
    (λ s. let e : suc (s.subtask - 1) ≡ s.subtask = omega (arith, s.is_subtask.low) in
    (s.subtask - 1, omega (arith, s.is_subtask.low, s.is_subtask.high), rw e s.is_so))
    (dec_some (length times) (λ u. P (suc u)) (λ u. dec (suc u)))

unfoldable pub dec_repeats : (arrows : List (List ℕ)) (b : ℕ) → Dec (Repeats arrows b)
unfolding via dec_some Dec.and ℕ_discrete
dec_repeats arrows b = via
    (λ x. record { earlier = x.0; before = x.1; same_from = x.2.0; same_to = x.2.1 })
    (λ r. (r.earlier, r.before, (r.same_from, r.same_to)))
    (dec_some b (λ a. (from_of arrows a ≡ from_of arrows b) × (to_of arrows a ≡ to_of arrows b))
    (λ a. Dec.and (ℕ_discrete (from_of arrows a) (from_of arrows b)) (ℕ_discrete (to_of arrows a) (to_of arrows b))))

unfoldable pub dec_order : (times order : List ℕ) → Dec (IsOrder times order)
unfolding via dec_all Dec.and Dec.not dec_among ℕ_discrete
dec_order times order = via
    (λ x. record { whole = x.0; each = x.1.0; once = λ a b l m. x.1.1 b m a l })
    (λ o. (o.whole, (o.each, λ b m a l. o.once a b l m)))
    (Dec.and (ℕ_discrete (length order) (length times))
    (Dec.and (dec_all (length order) (λ x. IsSubtask times (get_or order x 0)) (λ x. dec_among 1 (length times) (get_or order x 0)))
    (dec_all (length order) (λ b. (a : ℕ) → a < b → get_or order a 0 ≢ get_or order b 0)
    (λ b. dec_all b (λ a. get_or order a 0 ≢ get_or order b 0) (λ a. Dec.not (ℕ_discrete (get_or order a 0) (get_or order b 0)))))))

-- ---- plans

unfoldable pub dec_runs : (times : List ℕ) (plan : List Entry) (j t : ℕ) → Dec (RunsAt times plan j t)
unfolding via Dec.and dec_le dec_lt
dec_runs times plan j t = via
    (λ h. record { placed = omega (arith, h.0); begun = omega (arith, h.1.0); unended = omega (arith, h.1.1) })
    (λ r. (omega (arith, r.placed), (omega (arith, r.begun), omega (arith, r.unended))))
    (Dec.and (dec_le 1 (processor_of plan j)) (Dec.and (dec_le (start_of plan j) t) (dec_lt t (end_of times plan j))))

unfoldable pub dec_free : (times : List ℕ) (plan : List Entry) (p t : ℕ) → Dec (FreeAt times plan p t)
unfolding via dec_each Dec.and Dec.not dec_runs ℕ_discrete
dec_free times plan p t = via
    (λ f j s e r. f j s (e, r))
    (λ f j s x. f j s x.0 x.1)
    (dec_each (length times) (λ j. ¬ ((processor_of plan j ≡ p) × RunsAt times plan j t))
    (λ j. Dec.not (Dec.and (ℕ_discrete (processor_of plan j) p) (dec_runs times plan j t))))

unfoldable pub dec_served : (times : List ℕ) (arrows : List (List ℕ)) (plan : List Entry) (j t : ℕ)
    → Dec ((i : ℕ) → Precedes arrows i j → Placed plan i × (end_of times plan i ≤ t))
unfolding via dec_all dec_when Dec.and dec_le ℕ_discrete
dec_served times arrows plan j t = via
    (λ f i w. rw w.begins at (f w.place w.inside w.arrives))
    (λ f a l e. f (from_of arrows a) (record { place = a; inside = l; begins = refl; arrives = e }))
    (dec_all (length arrows) (λ a. to_of arrows a ≡ j → Placed plan (from_of arrows a) × (end_of times plan (from_of arrows a) ≤ t))
    (λ a. dec_when (ℕ_discrete (to_of arrows a) j) (Dec.and (dec_le 1 (processor_of plan (from_of arrows a))) (dec_le (end_of times plan (from_of arrows a)) t))))

unfoldable pub dec_ready : (times : List ℕ) (arrows : List (List ℕ)) (plan : List Entry) (j t : ℕ) → Dec (ReadyAt times arrows plan j t)
unfolding via Dec.and dec_served dec_or_not dec_lt dec_le
dec_ready times arrows plan j t = via
    (λ h. record { served = h.0; waiting = h.1 })
    (λ r. (r.served, r.waiting))
    (Dec.and (dec_served times arrows plan j t) (dec_or_not (dec_lt t (start_of plan j)) (dec_le 1 (processor_of plan j))))

unfoldable pub dec_idle : (times : List ℕ) (arrows : List (List ℕ)) (M : ℕ) (plan : List Entry) (t : ℕ) → Dec (IdleAt times arrows M plan t)
unfolding via Dec.and dec_some_subtask dec_some dec_ready dec_free
dec_idle times arrows M plan t = via
    (λ x. record {
      subtask = x.0.subtask;
      is_subtask = x.0.is_subtask;
      ready = x.0.is_so;
      processor = suc x.1.0;
      in_range = record { low = omega arith; high = omega (arith, x.1.1) };
      free = x.1.2;
    })
    (λ d. let e : suc (d.processor - 1) ≡ d.processor = omega (arith, d.in_range.low) in (
      record { subtask = d.subtask; is_subtask = d.is_subtask; is_so = d.ready },
      (d.processor - 1, omega (arith, d.in_range.low, d.in_range.high), rw e d.free),
    ))
    (Dec.and (dec_some_subtask times (λ j. ReadyAt times arrows plan j t) (λ j. dec_ready times arrows plan j t))
    (dec_some M (λ p. FreeAt times plan (suc p) t) (λ p. dec_free times plan (suc p) t)))

unfoldable pub dec_starts_early : (times : List ℕ) (arrows : List (List ℕ)) (plan : List Entry) (j : ℕ) → Dec (StartsEarly times arrows plan j)
unfolding via dec_some Dec.and dec_lt ℕ_discrete
dec_starts_early times arrows plan j = via
    (λ x. record { predecessor = from_of arrows x.0; precedes = record { place = x.0; inside = x.1; begins = refl; arrives = x.2.0 }; early = x.2.1 })
    (λ s. (s.precedes.place, s.precedes.inside, (s.precedes.arrives, rw s.precedes.begins s.early)))
    (dec_some (length arrows) (λ a. (to_of arrows a ≡ j) × (start_of plan j < end_of times plan (from_of arrows a)))
    (λ a. Dec.and (ℕ_discrete (to_of arrows a) j) (dec_lt (start_of plan j) (end_of times plan (from_of arrows a)))))

pub share_turned : {times : List ℕ} {plan : List Entry} (i j : ℕ) → Share times plan i j → Share times plan j i
share_turned i j s = record { two = λ e. s.two (sym e); same_processor = sym s.same_processor; instant = s.instant; runs = s.runs_too; runs_too = s.runs }

unfoldable pub dec_share : (times : List ℕ) (plan : List Entry) (i j : ℕ) → Dec (Share times plan i j)
unfolding via dec_some Dec.and Dec.not dec_runs ℕ_discrete
dec_share times plan i j = via
    (λ x. record { two = x.0; same_processor = x.1.0; instant = x.1.1.0; runs = x.1.1.2.0; runs_too = x.1.1.2.1 })
    (λ s. (s.two, (s.same_processor, (s.instant, s.runs.unended, (s.runs, s.runs_too)))))
    (Dec.and (Dec.not (ℕ_discrete i j))
    (Dec.and (ℕ_discrete (processor_of plan i) (processor_of plan j))
    (dec_some (end_of times plan i) (λ t. RunsAt times plan i t × RunsAt times plan j t) (λ t. Dec.and (dec_runs times plan i t) (dec_runs times plan j t)))))
