-- What the reader and the joins count and the writer writes has room in 32 bits. Assumes nothing.
use Rattle.std.proofs.Common.{List, ℕ, arith, length}
use Rattle.terms.specs.Graphs.{In16Bits}
use Rattle.terms.specs.Readings.{IsRead}
use Rattle.terms.specs.Joins.{Graph}
use Rattle.terms.specs.Replies.{IsWritten, IsJoined}
use Rattle.terms.specs.declared.GraphSize.{GraphSize}
use Rattle.theory.proofs.ReadSizes.{read_sizes}
use Rattle.theory.proofs.WrittenBack.{written_most}
use Rattle.theory.proofs.JoinedReplies.{sound_join}
use Rattle.api.specs.Flats.{InRange, IsShort}
use Rattle.std.specs.Prelude.{Result, Ok, Err}
use Rattle.terms.specs.declared.Refusal.{Refusal}

pub in_range : (times_room arrows_room : ℕ) (text times_row : List ℕ) (arrows_row : List (List ℕ)) (r : Result GraphSize Refusal)
    → IsRead times_room arrows_room text times_row arrows_row r → InRange r
in_range times_room arrows_room text times_row arrows_row (Ok size) h = read_sizes times_room arrows_room text times_row arrows_row size h
in_range times_room arrows_room text times_row arrows_row (Err refusal) h = tt

pub joined_in_range : (a b g : Graph) (times₀ times : List ℕ) (arrows₀ arrows : List (List ℕ)) (r : Result GraphSize Refusal)
    → IsJoined a b g times₀ arrows₀ times arrows r → InRange r
unfolding IsJoined
joined_in_range a b g times₀ times arrows₀ arrows (Ok size) (accepted, n, m, u, v) =
    let within = (sound_join a b g (length times₀) (length arrows₀) accepted).2 in
    (omega (arith, n, within.few), omega (arith, m, within.few_arrows))
joined_in_range a b g times₀ times arrows₀ arrows (Err refusal) h = tt

pub is_short : (times : List ℕ) (arrows : List (List ℕ)) (before after : List ℕ) (r : Result ℕ Refusal)
    → In16Bits times → IsWritten times arrows before after r → IsShort r
is_short times arrows before after (Ok k) small h = written_most times arrows before after k h small
is_short times arrows before after (Err refusal) small h = tt
