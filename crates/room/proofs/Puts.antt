-- Bytes in a room, one behind the other; the room that is left; what they leave; and no second reply. Assumes nothing.
use Rattle.std.proofs.Common.{◌≡◌, refl, sym, ap, ap₂, ◌∙◌, List, [], ◌++◌, ℕ, ◌+◌, ◌<◌, arith, length, take, drop, length-append}
use Rattle.std.proofs.Math.Logic.{by_cases}
use Rattle.std.proofs.Math.Decide.{dec_le}
use Rattle.std.proofs.lemmas.List.Edits.{sets, sets-eq}
use Rattle.std.proofs.Math.Seq.{length-sets}
use Rattle.theory.proofs.Stores.{sets_append}
use Rattle.room.specs.Puts.{HasRoom, Stands, Put, Puts}
use Rattle.room.specs.declared.Pen.{Pen}

-- ---- one behind the other

pub stands_none : (l : List ℕ) (at : ℕ) → Stands l at [] l at
stands_none l at = record { held = refl; next = omega arith }

pub stands_then : {l m k : List ℕ} {at a b : ℕ} {xs ys : List ℕ} → Stands l at xs m a → Stands m a ys k b → Stands l at (xs ++ ys) k b
stands_then {l} {m} {k} {at} {a} {b} {xs} {ys} p q = record {
  held = q.held ∙ ap₂ (λ (r : List ℕ) (i : ℕ). sets r i ys) p.held p.next ∙ sym (sets_append l at xs ys);
  next = omega (arith, q.next, p.next, length-append xs ys);
}

-- the room is as long as it was
pub stands_length : {l m xs : List ℕ} {at a : ℕ} → Stands l at xs m a → length m ≡ length l
stands_length {l} {m} {xs} {at} p = ap length p.held ∙ length-sets l at xs

-- ---- the room

-- room for all is room for the first part, and behind it for the rest
pub room_first : (l : List ℕ) (at : ℕ) (xs ys : List ℕ) → HasRoom l at (xs ++ ys) → HasRoom l at xs
room_first l at xs ys h = omega (arith, h, length-append xs ys)

pub room_rest : {l m : List ℕ} {at a : ℕ} {xs : List ℕ} (ys : List ℕ) → HasRoom l at (xs ++ ys) → Stands l at xs m a → HasRoom m a ys
room_rest {xs = xs} ys h p = omega (arith, h, length-append xs ys, p.next, stands_length p)

-- ---- what is left

-- the front as before, the bytes, the rest as before
pub stands_left : {l m : List ℕ} {at a : ℕ} {xs : List ℕ} → HasRoom l at xs → Stands l at xs m a → m ≡ take at l ++ xs ++ drop a l
stands_left {l} {m} {at} {a} {xs} h p = p.held ∙ sets-eq xs l at h ∙ ap (λ (k : ℕ). take at l ++ xs ++ drop k l) (sym p.next)

one_stands : {l m k : List ℕ} {at a b : ℕ} {xs : List ℕ} → Stands l at xs m a → Stands l at xs k b → (m ≡ k) × (a ≡ b)
one_stands p q = (p.held ∙ sym q.held, p.next ∙ sym q.next)

-- no second room and no second reply
pub one_put : {l m k : List ℕ} {at a b : ℕ} {xs : List ℕ} → Put l at xs m a → Put l at xs k b → (m ≡ k) × (a ≡ b)
one_put {l} {m} {k} {at} {a} {b} {xs} p q = by_cases (dec_le (at + length xs) (length l))
    (λ h. one_stands (p.whole h) (q.whole h))
    (λ n. let h : length l < at + length xs = omega arith in
    ((p.nothing h).0 ∙ sym (q.nothing h).0, (p.nothing h).1 ∙ sym (q.nothing h).1))

-- by a pen: no second room, no other bytes in it, and no second place
pub one_puts : {pen after after' : Pen} {bytes : List ℕ} → Puts pen bytes after → Puts pen bytes after'
    → (after.text.ghost_name ≡ after'.text.ghost_name) × (after.text.now ≡ after'.text.now) × (after.at ≡ after'.at)
one_puts p q = let one = one_put p.put q.put in (p.same_room ∙ sym q.same_room, one.0, one.1)

-- where there was room
pub put_whole : {l m : List ℕ} {at a : ℕ} {xs : List ℕ} → HasRoom l at xs → Stands l at xs m a → Put l at xs m a
put_whole h p = record { whole = λ _. p; nothing = λ n. absurd (omega (arith, n, h)) }
