-- From the room, the lines and the check to the reply. Assumes nothing.
use Rattle.std.proofs.Common.{◌≡◌, refl, sym, ◌∙◌, ap, List, map, ℕ, ◌+◌, ◌≤◌, arith, le-leb, length, take, drop, take_at}
use Rattle.std.proofs.Common.{Result, Ok, Err}
use Rattle.std.proofs.lemmas.List.{length-map}
use Rattle.std.proofs.lemmas.List.Edits.{sets, sets-eq}
use Rattle.terms.specs.Rows.{Accepted}
use Rattle.terms.specs.Graphs.{Among}
use Rattle.terms.specs.Refusals.{time_and_arrow_rows}
use Rattle.terms.specs.Replies.{IsCheck}
use Rattle.terms.specs.Texts.{lines}
use Rattle.terms.specs.Readings.{Reading, refuse, graph, read_lines, read_text, IsReplyTo, IsRead}
use Rattle.terms.specs.declared.GraphSize.{GraphSize}
use Rattle.terms.specs.declared.Refusal.{Refusal}
use Rattle.stg.specs.LinesRead.{hold, Fails, Rows, outcome, Leaves}
use Rattle.stg.specs.RowsRead.{AllPairs, Stored, ChecksRead, RoomOf, IsRefusalOf, Begins, TellsOf, kept_by, ClearedPast}
use Rattle.stg.proofs.TwoEnds.{PairsIn, pairs_reading}
use Rattle.stg.proofs.Clipped.{unclipped, accepted_first_rows}

-- ---- what is asked first

refused_by : (reading : Reading) (refusal : Refusal) → reading ≡ refuse refusal → IsRefusalOf reading refusal
refused_by reading refusal e = rw e

module _ (times_room arrows_room : ℕ) (text : List ℕ) where
  pub no_fit : (refusal : Refusal) → RoomOf times_room arrows_room (length text) (Err refusal) → IsRefusalOf (read_text times_room arrows_room text) refusal
  unfolding read_text
  no_fit refusal h = refused_by _ refusal (h (read_lines (lines text)))

  fit_text : (256 ≤ times_room) × (2048 ≤ arrows_room) × (length text ≤ 60000) → read_text times_room arrows_room text ≡ read_lines (lines text)
  unfolding read_text
  fit_text h = rw (le-leb 256 times_room h.0, le-leb 2048 arrows_room h.1, le-leb (length text) 60000 h.2)

-- ---- what the lines left

fails_read : (k : Refusal) (reading : Reading) (ts : List ℕ) (ar : List (List ℕ)) → outcome ts ar 0 0 reading ≡ Fails k → reading ≡ refuse k
fails_read k (refuse j) ts ar e = cc
fails_read k (graph us bs) ts ar e = let z : ◌≡◌ {A = ℕ} 0 1 = cc in absurd (omega arith)

-- a graph, and what stands in the two rows
record Got (reading : Reading) (ts : List ℕ) (ar : List (List ℕ)) (ts' : List ℕ) (ar' : List (List ℕ)) (n a : ℕ) : Type 0 where
  pub us : List ℕ
  pub bs : List (List ℕ)
  pub is : reading ≡ graph us bs
  pub times : ts' ≡ sets ts 0 us
  pub arrows : ar' ≡ sets ar 0 (map hold bs)
  pub n_is : n ≡ length us
  pub a_is : a ≡ length bs

got_graph : (reading : Reading) (ts : List ℕ) (ar : List (List ℕ)) (ts' : List ℕ) (ar' : List (List ℕ)) (n a : ℕ)
    → outcome ts ar 0 0 reading ≡ Rows ts' ar' n a → Got reading ts ar ts' ar' n a
got_graph (refuse k) ts ar ts' ar' n a e = absurd (let z : ◌≡◌ {A = ℕ} 0 1 = cc in omega arith)
got_graph (graph us bs) ts ar ts' ar' n a e =
    let t : 0 + length us ≡ n = cc in
    let b : 0 + length bs ≡ a = cc in
    record { us = us; bs = bs; is = refl; times = cc; arrows = cc; n_is = omega arith; a_is = omega arith }

-- values laid at the front of a row
laid : {A : Type 0} (xs row : List A) → length xs ≤ length row → take (length xs) (sets row 0 xs) ≡ xs
laid xs row h = rw (sets-eq xs row 0 (omega (arith, h))) (take_at xs (drop (0 + length xs) row) (length xs) refl)

-- ---- the graph that was read

pairs_of : (reading : Reading) (us : List ℕ) (bs : List (List ℕ)) → reading ≡ graph us bs → PairsIn reading → AllPairs bs
pairs_of reading us bs e h = rw e at h

module _ (text ts : List ℕ) (ar : List (List ℕ)) (ts' : List ℕ) (ar' : List (List ℕ)) (n a : ℕ) (wide : 256 ≤ length ts) (long : 2048 ≤ length ar)
    (high : n ≤ 256)
    (g : Got (read_lines (lines text)) ts ar ts' ar' n a) where
  few : length g.us ≤ 256
  few = omega (arith, g.n_is)

  pairs : AllPairs g.bs
  pairs = pairs_of (read_lines (lines text)) g.us g.bs g.is (pairs_reading (lines text))

  stored : Stored g.bs a ar'
  stored =
      record {
        pairs = pairs;
        many = sym g.a_is;
        first = λ h.
            let e : length (map hold g.bs) ≡ a = length-map g.bs hold ∙ sym g.a_is in
            rw (g.arrows, ← e) (laid (map hold g.bs) ar (omega arith));
      }

  front : take (length g.us) ts' ≡ g.us
  front = rw g.times (laid g.us ts (omega (arith, few)))

  checked : (r : Result (Unit {0}) Refusal) → ChecksRead (take n ts') ar' a r → IsCheck (time_and_arrow_rows g.us g.bs) r
  checked r f = let k : take n ts' ≡ g.us = ap (λ (m : ℕ). take m ts') g.n_is ∙ front in rw (← k) (f g.bs stored)

  begins : (size : GraphSize) → size.subtasks ≡ n → size.arrows ≡ a → Accepted (time_and_arrow_rows g.us g.bs) → Begins g.us g.bs ts' ar' size
  begins size p q x =
      let first = accepted_first_rows g.us g.bs x in
      let u : map hold g.bs ≡ g.bs = unclipped g.us few g.bs pairs first.1 in
      record {
        accepted = x;
        subtasks_are = p ∙ g.n_is;
        arrows_are = q ∙ g.a_is;
        times_begin = front;
        arrows_begin = rw (g.arrows, u) (laid g.bs ar (omega (arith, first.0)));
      }

module _ (text ts : List ℕ) (ar : List (List ℕ)) (ts' : List ℕ) (ar' : List (List ℕ))
    (fit : (256 ≤ length ts) × (2048 ≤ length ar) × (length text ≤ 60000)) where
  pub told_lines : (refusal : Refusal) → Leaves ts ar (read_lines (lines text)) ts' ar' (Err refusal)
      → IsRefusalOf (read_text (length ts) (length ar) text) refusal
  unfolding Leaves
  told_lines refusal o = refused_by _ refusal (fit_text (length ts) (length ar) text fit ∙ fails_read refusal (read_lines (lines text)) ts ar o)

  module _ (size : GraphSize) (o : Leaves ts ar (read_lines (lines text)) ts' ar' (Ok size)) where
    pub sized : Among 1 256 size.subtasks
    unfolding Leaves
    sized = o.1

    got : Got (read_lines (lines text)) ts ar ts' ar' size.subtasks size.arrows
    unfolding Leaves
    got = got_graph (read_lines (lines text)) ts ar ts' ar' size.subtasks size.arrows o.0

    is : read_text (length ts) (length ar) text ≡ graph got.us got.bs
    is = fit_text (length ts) (length ar) text fit ∙ got.is

    tells_check : (r : Result (Unit {0}) Refusal) → ChecksRead (take size.subtasks ts') ar' size.arrows r → IsCheck (time_and_arrow_rows got.us got.bs) r
    tells_check r f = checked text ts ar ts' ar' size.subtasks size.arrows fit.0 fit.1 sized.high got r f

    pub told_read : ChecksRead (take size.subtasks ts') ar' size.arrows (Ok tt) → TellsOf (read_text (length ts) (length ar) text) ts' ar' (Ok size)
    unfolding IsCheck
    told_read f = rw is (begins text ts ar ts' ar' size.subtasks size.arrows fit.0 fit.1 sized.high got size refl refl (tells_check (Ok tt) f))

    pub told_check : (refusal : Refusal) → ChecksRead (take size.subtasks ts') ar' size.arrows (Err refusal)
        → IsRefusalOf (read_text (length ts) (length ar) text) refusal
    unfolding IsCheck
    told_check refusal f = rw is (tells_check (Err refusal) f)

-- ---- the reply

module _ (L M : ℕ) (ts : List ℕ) (ar : List (List ℕ)) (lt : length ts ≡ L) (la : length ar ≡ M) (ts' : List ℕ) (ar' : List (List ℕ)) where
  replies : (reading : Reading) (r : Result GraphSize Refusal) → TellsOf reading ts ar r → ClearedPast (kept_by r).subtasks ts ts' (kept_by r).arrows ar ar'
      → IsReplyTo reading L M ts' ar' r
  unfolding IsReplyTo
  replies (refuse k) (Ok size) x c = absurd x
  replies (refuse k) (Err refusal) x c = (x, record { times_held = c.times_past ∙ rw lt; arrows_held = c.arrows_past ∙ rw la })
  replies (graph us bs) (Err refusal) x c = (x, record { times_held = c.times_past ∙ rw lt; arrows_held = c.arrows_past ∙ rw la })
  replies (graph us bs) (Ok size) x c = (
    x.accepted,
    x.subtasks_are,
    x.arrows_are,
    record {
      times_held = c.times_past ∙ rw (x.subtasks_are, x.times_begin, lt);
      arrows_held = c.arrows_past ∙ rw (x.arrows_are, x.arrows_begin, la);
    },
  )

  pub reply : (text : List ℕ) (r : Result GraphSize Refusal) (kept : GraphSize) → kept ≡ kept_by r → TellsOf (read_text L M text) ts ar r
      → ClearedPast kept.subtasks ts ts' kept.arrows ar ar' → IsRead L M text ts' ar' r
  reply text r kept e x c = replies (read_text L M text) r x (rw e at c)
