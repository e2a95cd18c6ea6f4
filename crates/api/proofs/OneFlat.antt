-- No second flat reply, and no second state of a lent row, satisfies the statement over an exported function. Assumes nothing.
use Rattle.std.proofs.Common.{◌≡◌, sym, ap, ◌∙◌, List, ℕ}
use Rattle.terms.specs.Joins.{Graph}
use Rattle.terms.specs.Replies.{IsTotalWork, IsLongestPath, IsAnswer, IsChecked, IsListed, IsWritten, IsJoined, IsNestMeasure}
use Rattle.terms.specs.Readings.{IsRead}
use Rattle.terms.specs.declared.Entry.{Entry}
use Rattle.theory.proofs.OneReply as one
use Rattle.theory.proofs.OneNest.{one_nest_measure}
use Rattle.api.specs.Flats.{Flattens, flat_amount, flat_measure, flat_answer, flat_end, flat_counts, flat_written}
use Rattle.api.specs.declared.FlatAmount.{FlatAmount}
use Rattle.api.specs.declared.FlatMeasure.{FlatMeasure}
use Rattle.api.specs.declared.FlatAnswer.{FlatAnswer}
use Rattle.api.specs.declared.FlatEnd.{FlatEnd}
use Rattle.api.specs.declared.FlatCounts.{FlatCounts}
use Rattle.api.specs.declared.FlatWritten.{FlatWritten}

-- equal replies have one flat form
one_form : {A B : Type 0} {Is Other : A → Type 0} (flat : A → B) (r s : B) (p : Flattens Is flat r) (q : Flattens Other flat s) → p.reply ≡ q.reply → r ≡ s
one_form flat r s p q e = p.same ∙ ap flat e ∙ sym q.same

module _ (times : List ℕ) (arrows : List (List ℕ)) where
  pub one_total_work : (r s : FlatAmount) → Flattens (IsTotalWork times arrows) flat_amount r → Flattens (IsTotalWork times arrows) flat_amount s → r ≡ s
  one_total_work r s p q = one_form flat_amount r s p q (one.one_total_work times arrows p.reply q.reply p.is q.is)

  pub one_longest_path : (r s : FlatAmount) → Flattens (IsLongestPath times arrows) flat_amount r → Flattens (IsLongestPath times arrows) flat_amount s → r ≡ s
  one_longest_path r s p q = one_form flat_amount r s p q (one.one_longest_path times arrows p.reply q.reply p.is q.is)

  pub one_judged : (M D : ℕ) (r s : FlatAnswer) → Flattens (IsAnswer times arrows M D) flat_answer r → Flattens (IsAnswer times arrows M D) flat_answer s → r ≡ s
  one_judged M D r s p q = one_form flat_answer r s p q (one.one_judged times arrows M D p.reply q.reply p.is q.is)

  pub one_checked : (M : ℕ) (plan : List Entry) (r s : FlatEnd)
      → Flattens (IsChecked times arrows M plan) flat_end r → Flattens (IsChecked times arrows M plan) flat_end s → r ≡ s
  one_checked M plan r s p q = one_form flat_end r s p q (one.one_checked times arrows M plan p.reply q.reply p.is q.is)

  -- the reply, and the lent row
  pub one_listed : (M : ℕ) (order : List ℕ) (before after other : List Entry) (r s : FlatEnd)
      → Flattens (IsListed times arrows M order before after) flat_end r
      → Flattens (IsListed times arrows M order before other) flat_end s → (r ≡ s) × (after ≡ other)
  one_listed M order before after other r s p q =
      let same = one.one_listed times arrows M order before after other p.reply q.reply p.is q.is in
      (one_form flat_end r s p q same.0, same.1)

  -- the reply, and the room
  pub one_written : (before after other : List ℕ) (r s : FlatWritten)
      → Flattens (IsWritten times arrows before after) flat_written r
      → Flattens (IsWritten times arrows before other) flat_written s → (r ≡ s) × (after ≡ other)
  one_written before after other r s p q =
      let same = one.one_written times arrows before after other p.reply q.reply p.is q.is in
      (one_form flat_written r s p q same.0, same.1)

-- the reply, and both rows
pub one_read : (times_room arrows_room : ℕ) (text times_row times_row' : List ℕ) (arrows_row arrows_row' : List (List ℕ)) (r s : FlatCounts)
    → Flattens (IsRead times_room arrows_room text times_row arrows_row) flat_counts r
    → Flattens (IsRead times_room arrows_room text times_row' arrows_row') flat_counts s
    → (r ≡ s) × (times_row ≡ times_row') × (arrows_row ≡ arrows_row')
one_read times_room arrows_room text times_row times_row' arrows_row arrows_row' r s p q =
    let same = one.one_read times_room arrows_room text times_row times_row' arrows_row arrows_row' p.reply q.reply p.is q.is in
    (one_form flat_counts r s p q same.0, same.1, same.2)

pub one_joined : (a b g : Graph) (times₀ times times' : List ℕ) (arrows₀ arrows arrows' : List (List ℕ)) (r s : FlatCounts)
    → Flattens (IsJoined a b g times₀ arrows₀ times arrows) flat_counts r
    → Flattens (IsJoined a b g times₀ arrows₀ times' arrows') flat_counts s
    → (r ≡ s) × (times ≡ times') × (arrows ≡ arrows')
one_joined a b g times₀ times times' arrows₀ arrows arrows' r s p q =
    let same = one.one_joined a b g times₀ times times' arrows₀ arrows arrows' p.reply q.reply p.is q.is in
    (one_form flat_counts r s p q same.0, same.1, same.2)

pub one_nest : (row : List (List ℕ)) (r s : FlatMeasure) → Flattens (IsNestMeasure row) flat_measure r → Flattens (IsNestMeasure row) flat_measure s → r ≡ s
one_nest row r s p q = one_form flat_measure r s p q (one_nest_measure row p.reply q.reply p.is q.is)
