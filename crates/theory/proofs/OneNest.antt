-- A row is the writing of one nest only, so there is no second reply for a nest; its P is at most its C, which fits in 32 bits. Assumes nothing.
use Rattle.std.proofs.Common.{◌≡◌, refl, sym, ap, ap₂, ◌∙◌, inl, inr, List, [], ◌∷◌, ◌++◌, append_assoc, append-nil, ℕ, suc, ◌*◌, ◌≤◌, arith, length, length-append}
use Rattle.std.proofs.Math.Nat.{suc_inj}
use Rattle.std.proofs.lemmas.List.{length-map}
use Rattle.terms.specs.Rows.{RefusedBy}
use Rattle.terms.specs.Joins.{Way, end_to_end, side_by_side}
use Rattle.terms.specs.Nests.{other, Members, none, graph, opener, Nest, count, work_of, path_of, kind_of, graph_entry, opener_entry, written, Ruled}
use Rattle.terms.specs.Nests.{three, IsNest}
use Rattle.terms.specs.Refusals.{nest_rows}
use Rattle.terms.specs.Replies.{IsNestMeasure}
use Rattle.terms.specs.declared.Refusal.{Refusal}
use Rattle.terms.specs.declared.Weights.{Weights}
use Rattle.theory.proofs.Answers.{one_refusal}
use Rattle.theory.proofs.Together.{together_le}
use Rattle.std.specs.Prelude.{Result, Ok, Err}

-- ---- entries

-- an opener is no graph
pub kind_positive : (way : Way) → 1 ≤ kind_of way
kind_positive end_to_end = omega arith
kind_positive side_by_side = omega arith

module _ {xs ys : List (List ℕ)} where
  -- the same entry in front, the same numbers
  same_graph : {v w : Weights} → ◌≡◌ {A = List (List ℕ)} (graph_entry v ∷ xs) (graph_entry w ∷ ys) → (v ≡ w) × (xs ≡ ys)
  same_graph {v} {w} e =
      let c : v.c ≡ w.c = cc in
      let p : v.p ≡ w.p = cc in
      let t : xs ≡ ys = cc in
      (ap₂ (λ (x y : ℕ). record { c = x; p = y }) c p, t)

  pub same_opener : (way : Way) {m n : ℕ} → ◌≡◌ {A = List (List ℕ)} (opener_entry way m ∷ xs) (opener_entry way n ∷ ys) → (m ≡ n) × (xs ≡ ys)
  same_opener way {m} {n} e = let c : m ≡ n = cc in let t : xs ≡ ys = cc in (c, t)

  no_graph : (way : Way) {w : Weights} {n : ℕ} → ◌≡◌ {A = List (List ℕ)} (graph_entry w ∷ xs) (opener_entry way n ∷ ys) → ⊥
  no_graph way e = let z : 0 ≡ kind_of way = cc in omega (arith, kind_positive way)

-- ---- one nest

-- as many members, with anything behind them
pub one_members : {way : Way} (m n : Members Weights way) (r s : List (List ℕ)) → count m ≡ count n → written m ++ r ≡ written n ++ s → (m ≡ n) × (r ≡ s)
unfolding count written
one_members none none r s c e = (refl, e)
one_members none (graph w n) r s c e = absurd (omega arith)
one_members none (opener b n) r s c e = absurd (omega arith)
one_members (graph v m) none r s c e = absurd (omega arith)
one_members (graph v m) (graph w n) r s c e = go (same_graph e) (one_members m n r s (suc_inj c))
  where
    go : (v ≡ w) × (written m ++ r ≡ written n ++ s) → (written m ++ r ≡ written n ++ s → (m ≡ n) × (r ≡ s)) → (graph v m ≡ graph w n) × (r ≡ s)
    go (p, q) f = let t = f q in (ap₂ (λ x y. graph x y) p t.0, t.1)
one_members {way} (graph v m) (opener b n) r s c e = absurd (no_graph (other way) e)
one_members (opener a m) none r s c e = absurd (omega arith)
one_members {way} (opener a m) (graph w n) r s c e = absurd (no_graph (other way) (sym e))
one_members {way} (opener a m) (opener b n) r s c e = go (same_opener (other way) e) (λ k q. one_members a b _ _ k q) (one_members m n r s (suc_inj c))
  where
    go : (count a ≡ count b) × ((written a ++ written m) ++ r ≡ (written b ++ written n) ++ s)
        → (count a ≡ count b → written a ++ (written m ++ r) ≡ written b ++ (written n ++ s) → (a ≡ b) × (written m ++ r ≡ written n ++ s))
        → (written m ++ r ≡ written n ++ s → (m ≡ n) × (r ≡ s)) → (opener a m ≡ opener b n) × (r ≡ s)
    go (k, q) f h =
        let t = f k (sym (append_assoc (written a) (written m) r) ∙ q ∙ append_assoc (written b) (written n) s) in
        let u = h t.1 in
        (ap₂ (λ x y. opener x y) t.0 u.0, u.1)

pub one_nest : (row : List (List ℕ)) (m n : Nest) → IsNest row m → IsNest row n → m ≡ n
one_nest row m n p q =
    let e = same_opener end_to_end (sym p.fills ∙ q.fills) in
    (one_members m n [] [] e.0 (append-nil (written m) ∙ e.1 ∙ sym (append-nil (written n)))).0

-- ---- one reply

-- a row that is refused is no nest
pub not_refused : {B : Type 0} (row : List (List ℕ)) (nest : Nest) (a : Refusal) → IsNest row nest → RefusedBy (nest_rows row) a → B
unfolding nest_rows RefusedBy
not_refused row nest a n (inl g) = absurd (g.holds (record { nest = nest; is_nest = n }))
not_refused row nest a n (inr (h, x)) = absurd x

pub one_nest_measure : (row : List (List ℕ)) (a b : Result Weights Refusal) → IsNestMeasure row a → IsNestMeasure row b → a ≡ b
unfolding IsNestMeasure
one_nest_measure row (Ok v) (Ok w) (m, p, c, d) (n, q, e, f) =
    let same = one_nest row m n p q in
    ap₂ (λ (x y : ℕ). Ok (record { c = x; p = y })) (c ∙ ap work_of same ∙ sym e) (d ∙ ap path_of same ∙ sym f)
one_nest_measure row (Ok v) (Err b) (m, p, c, d) y = not_refused row m b p y
one_nest_measure row (Err a) (Ok w) x (n, q, e, f) = not_refused row n a q x
one_nest_measure row (Err a) (Err b) x y = ap Err (one_refusal (nest_rows row) a b x y)

-- ---- how large C and P are

pub path_work : {way : Way} (m : Members Weights way) → Ruled m → path_of m ≤ work_of m
unfolding work_of path_of Ruled
path_work none r = omega arith
path_work {way} (graph g m) r = together_le way r.0.path.high (path_work m r.1)
path_work {way} (opener n m) r = together_le way (path_work n r.1) (path_work m r.2)

-- each entry adds at most 16,776,960
pub work_small : {way : Way} (m : Members Weights way) → Ruled m → work_of m ≤ 16776960 * length (written m)
unfolding work_of written Ruled
work_small none r = omega arith
work_small (graph g m) r = omega (arith, r.0.work, work_small m r.1)
work_small (opener n m) r = omega (arith, work_small n r.1, work_small m r.2, length-append (written n) (written m))

pub nest_small : {row : List (List ℕ)} {nest : Nest} → IsNest row nest → (path_of nest ≤ work_of nest) × (work_of nest ≤ 4278124800)
nest_small {row} {nest} n =
    let e : length row ≡ suc (length (written nest)) = sym (length-map row three) ∙ ap length n.fills in
    (path_work nest n.ruled, omega (arith, work_small nest n.ruled, n.short))
