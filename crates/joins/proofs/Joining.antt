-- What is put down is the joined graph, and from there to the reply. Assumes nothing.
use Rattle.std.proofs.Common.{◌≡◌, refl, sym, ap, ap₂, ◌∙◌, List, [], ◌∷◌, ◌++◌, map, ℕ, zero, suc, ◌+◌, ◌*◌, ◌≤◌, ◌<◌, min, arith, zero-add, mul-le-mul, length, get_or, take, drop, length-append, length-take-le, Result, Ok, Err}
use Rattle.std.proofs.lemmas.List.{map-append}
use Rattle.std.proofs.lemmas.List.Edits.{sets, sets-eq}
use Rattle.std.proofs.Math.Seq.{length-sets}
use Rattle.terms.specs.Rows.{Accepted, RefusedBy}
use Rattle.terms.specs.Arrangements.{predecessors_of, successors_of, is_none, lasts_of, firsts_of, for_each, out_of, sorted_by_from}
use Rattle.terms.specs.Replies.{IsJoined}
use Rattle.terms.specs.Joins.{Graph, size, Way, end_to_end, side_by_side, entered, moved, joined_to, joined}
use Rattle.terms.specs.declared.Refusal.{Refusal}
use Rattle.theory.specs.Joined.{or_else}
use Rattle.theory.proofs.Accepted.{sound_graph}
use Rattle.theory.proofs.Ascending.{at_has, passing_has, each_same}
use Rattle.theory.proofs.TextLengths.{passing_few}
use Rattle.theory.proofs.JoinedRows.{joined_rows, joined_many}
use Rattle.arranged.specs.Free.{free_from, free_to, IsFront}
use Rattle.arranged.proofs.NoArrows.{Leads, front_lasts, front_firsts}
use Rattle.joins.specs.Tables.{both_rows, made_rows, Joinable}
use Rattle.joins.specs.Puts.{Puts, rows_arrows, Moves}
use Rattle.joins.proofs.RowByRow.{puts_then}
use Rattle.joins.proofs.Answered.{both_accepted, both_sound, both_refuse, made_refused, made_accepted, made_room}
use Rattle.terms.specs.declared.GraphSize.{GraphSize}

-- ---- the targets, and those that arrows are added to them from

lasts_few : (arrows : List (List ℕ)) (n : ℕ) → length (lasts_of n arrows) ≤ n
unfolding lasts_of
lasts_few arrows n = passing_few (λ i. is_none (successors_of n arrows i)) n

entered_few : (way : Way) (b : Graph) → length (entered way b) ≤ size b
unfolding firsts_of
entered_few end_to_end b = passing_few (λ j. is_none (predecessors_of (size b) b.arrows j)) (size b)
entered_few side_by_side b = omega arith

entered_small : (way : Way) (b : Graph) (i : ℕ) → i < length (entered way b) → get_or (entered way b) i 0 ≤ size b
unfolding firsts_of
entered_small end_to_end b i h = (passing_has (λ j. is_none (predecessors_of (size b) b.arrows j)) (size b) _ (at_has (entered end_to_end b) 0 i h)).0.high
entered_small side_by_side b i h = absurd (omega (arith, h))

-- ---- the arrows of either graph

unmoved : (v : ℕ) (row : List ℕ) → map (moved 0) (map (λ i. out_of i v) row) ≡ map (λ i. out_of i v) row
unmoved v [] = refl
unmoved v (i ∷ row) = ap₂ (λ (arrow : List ℕ) (l : List (List ℕ)). arrow ∷ l) (ap₂ (λ (x y : ℕ). x ∷ y ∷ []) (zero-add v) (zero-add i)) (unmoved v row)

each_unmoved : (row : ℕ → List ℕ) (m : ℕ) → map (moved 0) (for_each row out_of m) ≡ for_each row out_of m
unfolding for_each
each_unmoved row zero = refl
each_unmoved row (suc m) =
    map-append (moved 0) (for_each row out_of m) (map (λ i. out_of i (suc m)) (row (suc m)))
    ∙ ap₂ (λ (l k : List (List ℕ)). l ++ k) (each_unmoved row m) (unmoved (suc m) (row (suc m)))

else_none : (row : List ℕ) → row ≡ or_else [] row
else_none [] = refl
else_none (x ∷ row) = refl

-- ---- what is put down

module _ {a b : Graph} {targets : List ℕ} (can : Joinable a b targets) where
  abbrev g : Graph
  g = joined_to targets a b

  -- the arrows out of the first's subtasks, and those of the second
  first_arrows : List (List ℕ)
  first_arrows = rows_arrows 0 (size a) targets (successors_of (size a) a.arrows) (size a)

  second_arrows : List (List ℕ)
  second_arrows = rows_arrows (size a) (size b) [] (successors_of (size b) b.arrows) (size b)

  -- together they are the joined graph's
  parts : g.arrows ≡ first_arrows ++ second_arrows
  unfolding first_arrows second_arrows rows_arrows sorted_by_from
  parts =
      ap (λ (l : List ℕ). (joined_to l a b).arrows) can.entered_by
      ∙ joined_rows can.way a b can.first can.second
      ∙ ap (λ (l : List ℕ). for_each (λ v. or_else (map (λ j. size a + j) l) (successors_of (size a) a.arrows v)) out_of (size a)
      ++ map (moved (size a)) (for_each (successors_of (size b) b.arrows) out_of (size b))) (sym can.entered_by)
      ∙ ap₂ (λ (l k : List (List ℕ)). l ++ map (moved (size a)) k) (sym (each_unmoved _ (size a)))
      (each_same _ _ out_of (size b) (λ v _. else_none (successors_of (size b) b.arrows v)))

  -- no number is too large
  pub first_moves : Moves 0 (size a) targets
  first_moves = record {
    few = omega (arith, can.few);
    small = λ i h. rw can.entered_by (omega (arith, can.few, entered_small can.way b i (rw can.entered_by at h)));
  }

  pub second_moves : Moves (size a) (size b) []
  second_moves = record { few = can.few; small = λ i h. absurd (omega (arith, h)) }

  together : length g.arrows ≡ length first_arrows + length second_arrows
  together = ap length parts ∙ length-append first_arrows second_arrows

  module _ (arrows : List (List ℕ)) (room : length g.arrows ≤ length arrows) where
    pub first_room : 0 + length (rows_arrows 0 (size a) targets (successors_of (size a) a.arrows) (size a)) ≤ length arrows
    unfolding first_arrows
    first_room = omega (arith, room, together)

    pub second_room : {between : List (List ℕ)} {k : ℕ} → Puts arrows 0 (rows_arrows 0 (size a) targets (successors_of (size a) a.arrows) (size a)) between k
        → k + length (rows_arrows (size a) (size b) [] (successors_of (size b) b.arrows) (size b)) ≤ length between
    unfolding first_arrows second_arrows
    second_room p = omega (arith, room, together, p.behind, ap length p.stands, length-sets arrows 0 first_arrows)

  pub arrows_put : {arrows between after : List (List ℕ)} {k next : ℕ}
      → Puts arrows 0 (rows_arrows 0 (size a) targets (successors_of (size a) a.arrows) (size a)) between k
      → Puts between k (rows_arrows (size a) (size b) [] (successors_of (size b) b.arrows) (size b)) after next → after ≡ sets arrows 0 g.arrows
  unfolding first_arrows second_arrows
  arrows_put {arrows} p q = (puts_then p q).stands ∙ ap (λ (l : List (List ℕ)). sets arrows 0 l) (sym parts)

  -- ---- the reply

  targets_few : length targets ≤ 256
  targets_few = omega (arith, ap length can.entered_by, entered_few can.way b, can.few)

  pub few_arrows_lem : (length a.arrows ≤ 2048) × (length b.arrows ≤ 2048)
  few_arrows_lem = ((sound_graph a.times a.arrows can.first).few, (sound_graph b.times b.arrows can.second).few)

  accepted : Accepted (both_rows a b)
  accepted = both_accepted a b can.first can.second can.few

  module _ {added : ℕ} (added_is : added ≡ length (lasts_of (size a) a.arrows) * length targets) where
    abbrev n : ℕ
    n = size a + size b

    abbrev many : ℕ
    many = length a.arrows + length b.arrows + added

    pub added_few : added ≤ 65536
    added_few =
        let ends : length (lasts_of (size a) a.arrows) ≤ 256 = omega (arith, lasts_few a.arrows (size a), can.few) in
        omega (arith, added_is, mul-le-mul ends targets_few)

    n_is : n ≡ size g
    n_is = sym (length-append a.times b.times)

    many_is : many ≡ length g.arrows
    many_is =
        ap (λ (x : ℕ). length a.arrows + length b.arrows + x)
        (added_is ∙ ap (λ (l : List ℕ). length (lasts_of (size a) a.arrows) * length l) can.entered_by)
        ∙ sym (joined_many can.way a b can.first can.second)
        ∙ ap (λ (l : List ℕ). length (joined_to l a b).arrows) (sym can.entered_by)

    module _ (times : List ℕ) (arrows : List (List ℕ)) where
      made_same : made_rows n many (length times) (length arrows) ≡ made_rows (size g) (length g.arrows) (length times) (length arrows)
      made_same = ap₂ (λ (x y : ℕ). made_rows x y (length times) (length arrows)) n_is many_is

      pub join_refused : (refusal : Refusal) → RefusedBy (made_rows n many (length times) (length arrows)) refusal
          → IsJoined a b g times arrows times arrows (Err refusal)
      unfolding IsJoined
      join_refused refusal h = (made_refused targets a b (length times) (length arrows) refusal accepted (rw made_same at h), refl, refl)

      pub join_room : Accepted (made_rows n many (length times) (length arrows)) → (n ≤ length times) × (length g.arrows ≤ length arrows)
      join_room h = let r = made_room n many (length times) (length arrows) h in (r.0, rw (← many_is) r.1)

      pub join_made : {times' : List ℕ} {arrows' : List (List ℕ)} → Accepted (made_rows n many (length times) (length arrows))
          → times' ≡ a.times ++ b.times ++ drop n times → arrows' ≡ sets arrows 0 g.arrows
          → IsJoined a b g times arrows times' arrows' (Ok (record { subtasks = n; arrows = many }))
      unfolding IsJoined
      join_made h e d =
          let r = join_room h in
          let t : 0 + length g.arrows ≡ many = omega (arith, many_is) in (
            made_accepted targets a b (length times) (length arrows) accepted (rw made_same at h),
            n_is,
            many_is,
            e,
            d ∙ sets-eq g.arrows arrows 0 (omega (arith, r.1)) ∙ ap (λ (k : ℕ). g.arrows ++ drop k arrows) t,
          )

-- ---- from the two graphs' check on

module _ (a b : Graph) where
  pub refused_both : (way : Way) (times : List ℕ) (arrows : List (List ℕ)) (refusal : Refusal) → RefusedBy (both_rows a b) refusal
      → IsJoined a b (joined way a b) times arrows times arrows (Err refusal)
  unfolding IsJoined
  refused_both way times arrows refusal h = (both_refuse (entered way b) a b (length times) (length arrows) refusal h, refl, refl)

  module _ (sound : Accepted (both_rows a b)) where
    pub joins_by : (way : Way) {targets : List ℕ} → targets ≡ entered way b → Joinable a b targets
    joins_by way e =
        let known = both_sound a b sound in
        record { first = known.0; second = known.1; few = known.2; way = way; entered_by = e }

    -- those of the first without successors, and those of the second without predecessors
    pub ended : {before list : List ℕ} {k : ℕ} → IsFront (free_from a.arrows (min (size a) 256)) before list k → Leads (lasts_of (size a) a.arrows) list k
    ended = front_lasts (sound_graph a.times a.arrows (both_sound a b sound).0)

    pub begun : {before list : List ℕ} {k : ℕ} → IsFront (free_to b.arrows (min (size b) 256)) before list k → Leads (firsts_of (size b) b.arrows) list k
    begun = front_firsts (sound_graph b.times b.arrows (both_sound a b sound).1)

  pub joined_by : (way : Way) {targets : List ℕ} (times : List ℕ) (arrows : List (List ℕ)) (times' : List ℕ) (arrows' : List (List ℕ)) (r : Result GraphSize Refusal)
      → targets ≡ entered way b → IsJoined a b (joined_to targets a b) times arrows times' arrows' r
      → IsJoined a b (joined way a b) times arrows times' arrows' r
  joined_by way times arrows times' arrows' r e h = rw e at h

-- how many are listed
pub listed : {wanted list : List ℕ} {k : ℕ} → Leads wanted list k → k ≡ length wanted
listed {list = list} {k = k} leads = sym (length-take-le k list leads.inside) ∙ ap length leads.same

pub added_listed : {wanted list targets row : List ℕ} {k m : ℕ} → Leads wanted list k → Leads targets row m → k * m ≡ length wanted * length (take m row)
added_listed {row = row} {m = m} p q = ap₂ (λ (x y : ℕ). x * y) (listed p) (sym (length-take-le m row q.inside))
