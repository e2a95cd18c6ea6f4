-- Bytes put into a lent room from a place on.
use Rattle.std.specs.Prelude.{◌≡◌, List, ℕ, ◌+◌, ◌≤◌, ◌<◌, length}
use Rattle.std.proofs.lemmas.List.Edits.{sets}
use Rattle.room.specs.declared.Pen.{Pen}

-- from a place on the room has room for these bytes
abbrev pub HasRoom : List ℕ → ℕ → List ℕ → Type 0
HasRoom room at bytes = at + length bytes ≤ length room

-- the bytes stand in the room from a place on, all else is as it was; `past` is the place behind them
pub record Stands (before : List ℕ) (at : ℕ) (bytes after : List ℕ) (past : ℕ) : Type 0 where
  pub held : after ≡ sets before at bytes
  pub next : past ≡ at + length bytes

-- put whole where there is room for all of them, and else nothing is changed
pub record Put (before : List ℕ) (at : ℕ) (bytes after : List ℕ) (past : ℕ) : Type 0 where
  pub whole : HasRoom before at bytes → Stands before at bytes after past
  pub nothing : length before < at + length bytes → (after ≡ before) × (past ≡ at)

-- ---- by a pen, which stays in the same room

abbrev pub HasRoomFor : Pen → List ℕ → Type 0
HasRoomFor pen bytes = HasRoom pen.text.now pen.at bytes

pub record Puts (pen : Pen) (bytes : List ℕ) (after : Pen) : Type 0 where
  pub same_room : after.text.ghost_name ≡ pen.text.ghost_name
  pub put : Put pen.text.now pen.at bytes after.text.now after.at

-- where there was room
pub record PutsWhole (pen : Pen) (bytes : List ℕ) (after : Pen) : Type 0 where
  pub same_room : after.text.ghost_name ≡ pen.text.ghost_name
  pub stands : Stands pen.text.now pen.at bytes after.text.now after.at
