-- A graph whose arrows are held with clipped tails is answered by 2 to 7 as the graph itself. Assumes nothing.
use Rattle.std.proofs.Common.{◌≡◌, refl, sym, ◌⊎◌, inl, inr, ⊎_elim, List, [], ◌∷◌, ◌++◌, map, Bool, true, false, ℕ, zero, suc, ◌-◌, ◌≤◌, ◌<◌, arith, le-leb}
use Rattle.std.proofs.Common.{leb-true, leb-false, leb, length, get_or, take, Result, Ok, Err}
use Rattle.std.proofs.lemmas.Bool.{lt-leb}
use Rattle.std.proofs.lemmas.List.{length-map}
use Rattle.terms.specs.Rows.{Smallest, IsAt, Accepted, RefusedBy}
use Rattle.terms.specs.Graphs.{Among, IsSubtask, from_of, to_of}
use Rattle.terms.specs.Refusals.{SomeArrow, NamesOutside, ArrowAt, count_rows, time_rows, subtask_rows, size_rows, arrow_rows, time_and_arrow_rows, graph_rows}
use Rattle.terms.specs.Replies.{IsCheck}
use Rattle.terms.specs.declared.Refusal.{Refusal}
use Rattle.theory.proofs.Answers.{refused_first, refused_rest, refused_tail, accepted_both, accepted_tail, begin, past_all, stop, holds_of, none_holds}
use Rattle.terms.proofs.Decisions.{told}
use Rattle.theory.proofs.Stops.{smallest_as}
use Rattle.theory.proofs.Accepted.{read_refused, read_accepted}
use Rattle.stg.specs.LinesRead.{clipped, hold}
use Rattle.stg.specs.RowsRead.{AllPairs, ChecksRead}
use Rattle.terms.specs.declared.Refusal.TheVariants.{ArrowCount}

from_held : (bs : List (List ℕ)) (i : ℕ) → i < length bs → from_of (map hold bs) i ≡ clipped (from_of bs i)
unfolding from_of
from_held [] i h = absurd (omega arith)
from_held (b ∷ bs) zero h = refl
from_held (b ∷ bs) (suc i) h = from_held bs i (omega arith)

to_held : (bs : List (List ℕ)) (i : ℕ) → i < length bs → to_of (map hold bs) i ≡ to_of bs i
unfolding to_of
to_held [] i h = absurd (omega arith)
to_held (b ∷ bs) zero h = refl
to_held (b ∷ bs) (suc i) h = to_held bs i (omega arith)

clip_low : (v : ℕ) → v ≤ 65535 → clipped v ≡ v
clip_low v h = rw (le-leb v 65535 h)

clip_high : (v : ℕ) → 65535 < v → clipped v ≡ 65535
clip_high v h = rw (lt-leb v 65535 h)

low_or_high : (v : ℕ) → (v ≤ 65535) ⊎ (65535 < v)
low_or_high v = go (leb v 65535) refl
  where
    go : (t : Bool) → leb v 65535 ≡ t → (v ≤ 65535) ⊎ (65535 < v)
    go true e = inl (leb-true v 65535 e)
    go false e = inr (leb-false v 65535 e)

-- arrows that 16 bits can hold are held as they are
same : (bs : List (List ℕ)) → AllPairs bs → ((i : ℕ) → i < length bs → from_of bs i ≤ 65535) → map hold bs ≡ bs
unfolding from_of
same [] p f = refl
same (b ∷ bs) p f =
    let e : hold b ≡ b = rw (clip_low (get_or b 0 0) (f 0 (omega arith))) (sym p.0) in
    let k : map hold bs ≡ bs = same bs p.1 (λ i l. f (suc i) (omega arith)) in
    cc

-- a number is held as it is where it is a subtask's, or what is held is one
in_clip : (us : List ℕ) → length us ≤ 256 → (v : ℕ) → IsSubtask us v → IsSubtask us (clipped v)
in_clip us few v s = rw (clip_low v (omega (arith, s.high))) s

out_clip : (us : List ℕ) → length us ≤ 256 → (v : ℕ) → IsSubtask us (clipped v) → IsSubtask us v
out_clip us few v s = ⊎_elim (λ (l : v ≤ 65535). rw (clip_low v l) at s) (λ (l : 65535 < v). absurd (omega (arith, s.high, clip_high v l))) (low_or_high v)

-- ---- the rows 2 to 7

module _ (us : List ℕ) (few : length us ≤ 256) (bs : List (List ℕ)) where
  abbrev Held : List (List ℕ)
  Held = map hold bs

  -- an arrow names a subtask outside exactly where what is held of it does
  held_out : (a : ℕ) → a < length bs → NamesOutside us Held a → NamesOutside us bs a
  held_out a l out n = out (rw (from_held bs a l) (in_clip us few (from_of bs a) n.0), rw (to_held bs a l) n.1)

  out_held : (a : ℕ) → a < length bs → NamesOutside us bs a → NamesOutside us Held a
  out_held a l out n = out (out_clip us few (from_of bs a) (rw (from_held bs a l) at n.0), rw (to_held bs a l) at n.1)

  some_out : SomeArrow Held (NamesOutside us Held) → SomeArrow bs (NamesOutside us bs)
  some_out s =
      let l : s.place < length bs = omega (arith, s.inside, length-map bs hold) in
      record { place = s.place; inside = l; is_so = held_out s.place l s.is_so }

  -- and the first that does is the same
  first_out : {x : ℕ} → Smallest (ArrowAt Held (NamesOutside us Held)) x → Smallest (ArrowAt bs (NamesOutside us bs)) x
  first_out = smallest_as
      (λ y a. let p = rw (length-map bs hold) at a.position in
      record { position = p; is_so = held_out (y - 1) (omega (arith, p.low, p.high)) a.is_so })
      (λ y a. record { position = rw (length-map bs hold) a.position; is_so = out_held (y - 1) (omega (arith, a.position.low, a.position.high)) a.is_so })

  inside : (SomeArrow Held (NamesOutside us Held) → ⊥) → (i : ℕ) → i < length bs → from_of bs i ≤ 65535
  inside n i l =
      ⊎_elim (λ (k : from_of bs i ≤ 65535). k)
      (λ (k : 65535 < from_of bs i). absurd (n (record {
        place = i;
        inside = omega (arith, length-map bs hold);
        is_so = λ m. let e = from_held bs i l in let c = clip_high (from_of bs i) k in omega (arith, m.0.high);
      })))
      (low_or_high (from_of bs i))

  module _ (p : AllPairs bs) where
    held_same : (SomeArrow Held (NamesOutside us Held) → ⊥) → Held ≡ bs
    held_same n = same bs p (inside n)

    -- an accepted graph is held as it is
    pub unclipped : (SomeArrow bs (NamesOutside us bs) → ⊥) → Held ≡ bs
    unclipped n = held_same (λ s. n (some_out s))

    same_size : size_rows Held ≡ size_rows bs
    unfolding size_rows
    same_size = rw (length-map bs hold) refl

    -- 4 to 7: where 4 does not hold, the arrows are held as they are
    arrows_refused : (r : Refusal) → RefusedBy (arrow_rows us Held) r → RefusedBy (arrow_rows us bs) r
    unfolding arrow_rows RefusedBy IsAt
    arrows_refused r (inl g) = inl (record { holds = some_out g.holds; number_is = g.number_is; spot_is = (first_out g.spot_is.0, g.spot_is.1) })
    arrows_refused r (inr (n, x)) = let y : RefusedBy (arrow_rows us Held) r = inr (n, x) in rw (held_same n) at y

    arrows_accepted : Accepted (arrow_rows us Held) → Accepted (arrow_rows us bs)
    unfolding arrow_rows Accepted
    arrows_accepted (n, x) = let y : Accepted (arrow_rows us Held) = (n, x) in rw (held_same n) at y

    checked_held : (r : Result (Unit {0}) Refusal) → IsCheck (time_and_arrow_rows us Held) r → IsCheck (time_and_arrow_rows us bs) r
    unfolding IsCheck time_and_arrow_rows
    checked_held (Ok tt) x =
        accepted_tail (time_rows us) _ (size_rows bs ++ arrow_rows us bs) (λ y. accepted_tail (size_rows bs) _ _ arrows_accepted (rw same_size at y)) x
    checked_held (Err r) x =
        refused_tail (time_rows us) _ (size_rows bs ++ arrow_rows us bs) r (λ y. refused_tail (size_rows bs) _ _ r (arrows_refused r) (rw same_size at y)) x

-- neither 3 nor 4
pub accepted_first_rows : (us : List ℕ) (bs : List (List ℕ)) → Accepted (time_and_arrow_rows us bs)
    → (2048 < length bs → ⊥) × (SomeArrow bs (NamesOutside us bs) → ⊥)
unfolding time_and_arrow_rows time_rows size_rows arrow_rows holds_of
accepted_first_rows us bs x = (none_holds 3 (time_and_arrow_rows us bs) x, none_holds 4 (time_and_arrow_rows us bs) x)

-- ---- the check of what was read

module _ (times : List ℕ) (row : List (List ℕ)) (a : ℕ) (among : Among 1 256 (length times)) where
  -- where 1 does not hold, 1 to 7 answer as 2 to 7 do
  as_read : (arrows : List (List ℕ)) (r : Result (Unit {0}) Refusal) → IsCheck (graph_rows times arrows) r → IsCheck (time_and_arrow_rows times arrows) r
  unfolding IsCheck
  as_read arrows (Ok tt) x = read_accepted times arrows x
  as_read arrows (Err r) x = read_refused times arrows r among x

  pub checks_few : (r : Result (Unit {0}) Refusal) → a ≤ 2048 → IsCheck (graph_rows times (take a row)) r → ChecksRead times row a r
  checks_few r m k bs s = checked_held times among.high bs s.pairs r (rw (s.first m) at (as_read (take a row) r k))

  -- more than 2,048 arrows: 2, and else 3
  pub checks_three : 2048 < a → Accepted (subtask_rows times) → ChecksRead times row a (Err ArrowCount)
  unfolding IsCheck subtask_rows time_and_arrow_rows size_rows
  checks_three m k bs s =
      let times-pass = (accepted_both (count_rows times) (time_rows times) k).1 in
      stop (past_all (time_rows times) (begin (time_and_arrow_rows times bs)) times-pass) (rw s.many m) told

  pub checks_two : (r : Refusal) → RefusedBy (subtask_rows times) r → ChecksRead times row a (Err r)
  unfolding IsCheck subtask_rows count_rows time_and_arrow_rows Accepted
  checks_two r k bs s = refused_first (time_rows times) _ r (refused_rest (count_rows times) (time_rows times) r ((λ h. h among), tt) k)
