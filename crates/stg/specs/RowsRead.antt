-- What the two rows hold of a graph that was read, and what is answered of it.
use Rattle.std.specs.Prelude.{◌≡◌, List, [], ◌∷◌, ◌++◌, map, ◌&&◌, ℕ, ◌-◌, ◌≤◌, leb, length, get_or, take, replicate, Result, Ok, Err}
use Rattle.std.specs.Result.{result_unwrap_or}
use Rattle.terms.specs.Rows.{Accepted, RefusedBy}
use Rattle.terms.specs.Refusals.{time_and_arrow_rows}
use Rattle.terms.specs.Replies.{IsCheck}
use Rattle.terms.specs.Readings.{Reading, refuse, graph, need, no_arrow}
use Rattle.terms.specs.declared.GraphSize.{GraphSize}
use Rattle.terms.specs.declared.Refusal.{Refusal}
use Rattle.terms.specs.declared.Refusal.TheVariants.{Room, TextLength}
use Rattle.stg.specs.LinesRead.{hold}

-- each arrow has two ends
abbrev pub AllPairs : List (List ℕ) → Type 0
AllPairs [] = Unit {0}
AllPairs (arrow ∷ arrows) = (arrow ≡ get_or arrow 0 0 ∷ get_or arrow 1 0 ∷ []) × AllPairs arrows

-- these arrows, a of them, stand in the row, if they are few enough
pub record Stored (arrows : List (List ℕ)) (a : ℕ) (row : List (List ℕ)) : Type 0 where
  pub pairs : AllPairs arrows
  pub many : length arrows ≡ a
  pub first : a ≤ 2048 → take a row ≡ map hold arrows

-- 2 to 7, asked of the times and of the a arrows that were read
abbrev pub ChecksRead : List ℕ → List (List ℕ) → ℕ → Result (Unit {0}) Refusal → Type 0
ChecksRead times row a r = (arrows : List (List ℕ)) → Stored arrows a row → IsCheck (time_and_arrow_rows times arrows) r

-- 11 and 20, asked before the lines
abbrev pub RoomOf : ℕ → ℕ → ℕ → Result (Unit {0}) Refusal → Type 0
RoomOf times_room arrows_room size (Ok tt) = (256 ≤ times_room) × (2048 ≤ arrows_room) × (size ≤ 60000)
RoomOf times_room arrows_room size (Err refusal) =
    (reading : Reading) → need (leb 256 times_room && leb 2048 arrows_room) Room (need (leb size 60000) TextLength reading) ≡ refuse refusal

-- a refusal, whatever the rows hold then
abbrev pub IsRefusalOf : Reading → Refusal → Type 0
IsRefusalOf (refuse first) refusal = refusal ≡ first
IsRefusalOf (graph times arrows) refusal = RefusedBy (time_and_arrow_rows times arrows) refusal

-- an accepted graph, which the rows begin with
pub record Begins (times : List ℕ) (arrows : List (List ℕ)) (times_row : List ℕ) (arrows_row : List (List ℕ)) (size : GraphSize) : Type 0 where
  pub accepted : Accepted (time_and_arrow_rows times arrows)
  pub subtasks_are : size.subtasks ≡ length times
  pub arrows_are : size.arrows ≡ length arrows
  pub times_begin : take (length times) times_row ≡ times
  pub arrows_begin : take (length arrows) arrows_row ≡ arrows

-- the reply, but for what the rows hold past the graph, or with a refusal
abbrev pub TellsOf : Reading → List ℕ → List (List ℕ) → Result GraphSize Refusal → Type 0
TellsOf reading times_row arrows_row (Err refusal) = IsRefusalOf reading refusal
TellsOf (refuse first) times_row arrows_row (Ok size) = ⊥
TellsOf (graph times arrows) times_row arrows_row (Ok size) = Begins times arrows times_row arrows_row size

-- how much of the two rows a reply keeps
abbrev pub kept_by : Result GraphSize Refusal → GraphSize
kept_by reply = result_unwrap_or reply (record { subtasks = 0; arrows = 0 })

-- a row with another value at every place past the first k
abbrev pub keeping : {A : Type 0} → ℕ → A → List A → List A
keeping k v row = take k row ++ replicate (length row - k) v

pub record ClearedPast (n : ℕ) (times times' : List ℕ) (a : ℕ) (arrows arrows' : List (List ℕ)) : Type 0 where
  pub times_past : times' ≡ keeping n 0 times
  pub arrows_past : arrows' ≡ keeping a no_arrow arrows
