-- Bytes put piece by piece into a room that has room for all of them: whoever puts those that remain has put all. Assumes nothing.
use Rattle.std.proofs.Common.{◌≡◌, refl, ◌∙◌, subst, List, [], ◌++◌, ℕ, length}
use Rattle.room.specs.Puts.{HasRoom, Stands, Put}
use Rattle.room.proofs.Puts.{stands_none, stands_then, stands_length, room_first, room_rest}

-- of the bytes that were to stand from a place of a room on, these remain, to be put at k
pub record Remains (before : List ℕ) (at : ℕ) (bytes text : List ℕ) (k : ℕ) (rest : List ℕ) : Type 0 where
  pub all : (after : List ℕ) (past : ℕ) → Stands text k rest after past → Stands before at bytes after past
  pub room : HasRoom text k rest
  pub same : length text ≡ length before

pub remains_all : (l : List ℕ) (at : ℕ) (xs : List ℕ) → HasRoom l at xs → Remains l at xs l at xs
remains_all l at xs h = record { all = λ after past s. s; room = h; same = refl }

-- the same bytes, otherwise written
pub remains_same : {l xs m ys zs : List ℕ} {at k : ℕ} → ys ≡ zs → Remains l at xs m k ys → Remains l at xs m k zs
remains_same {l} {xs} {m} {at = at} {k} e r = subst (λ (ws : List ℕ). Remains l at xs m k ws) e r

-- there is room for the next piece
pub remains_room : {l xs m : List ℕ} {at k : ℕ} (ys zs : List ℕ) → Remains l at xs m k (ys ++ zs) → HasRoom m k ys
remains_room {m = m} {k = k} ys zs r = room_first m k ys zs r.room

-- it stands
pub remains_stands : {l xs m n ys : List ℕ} {at k a : ℕ} (zs : List ℕ) → Remains l at xs m k (ys ++ zs) → Stands m k ys n a → Remains l at xs n a zs
remains_stands zs r s = record {
  all = λ after past t. r.all after past (stands_then s t);
  room = room_rest zs r.room s;
  same = stands_length s ∙ r.same;
}

-- it was put
pub remains_put : {l xs m n ys : List ℕ} {at k a : ℕ} (zs : List ℕ) → Remains l at xs m k (ys ++ zs) → Put m k ys n a → Remains l at xs n a zs
remains_put {ys = ys} zs r p = remains_stands zs r (p.whole (remains_room ys zs r))

-- nothing remains
pub remains_none : {l xs m : List ℕ} {at k : ℕ} → Remains l at xs m k [] → Stands l at xs m k
remains_none {m = m} {k = k} r = r.all m k (stands_none m k)
