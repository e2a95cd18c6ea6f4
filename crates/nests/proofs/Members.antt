-- Members that entries begin with: some, then some more; some, and so the others behind them; how large C and P are. Assumes nothing.
use Rattle.std.proofs.Common.{◌≡◌, refl, sym, ap, ap₂, ◌∙◌, ◌⊎◌, inl, inr, List, ◌∷◌, ◌++◌, append_assoc, append-nil, ℕ, zero, suc, ◌+◌, ◌*◌, ◌≤◌, max, arith, length, length-append}
use Rattle.terms.specs.Joins.{Way}
use Rattle.terms.specs.Nests.{other, Members, none, graph, opener, count, depth, work_of, together, path_of}
use Rattle.terms.specs.Nests.{graph_entry, opener_entry, written, Ruled}
use Rattle.terms.specs.declared.Weights.{Weights}
use Rattle.theory.proofs.Together.{together_none, none_together, together_on}
use Rattle.theory.proofs.OneNest.{same_opener, one_members, path_work, work_small}
use Rattle.nests.specs.Walks.{weights_of, BeginsGraph, Begins, Opens}

-- ---- some members, then some more

abbrev followed : {way : Way} → Members Weights way → Members Weights way → Members Weights way
followed none n = n
followed (graph g m) n = graph g (followed m n)
followed (opener inner m) n = opener inner (followed m n)

-- they are counted, written and weighed one after the other
record Follows {way : Way} (m n whole : Members Weights way) : Type 0 where
  counts : count whole ≡ count m + count n
  writes : (after : List (List ℕ)) → written whole ++ after ≡ written m ++ (written n ++ after)
  deep : depth whole ≡ max (depth m) (depth n)
  work : work_of whole ≡ work_of m + work_of n
  path : path_of whole ≡ together way (path_of m) (path_of n)
  ruled : Ruled m → Ruled n → Ruled whole
  unruled : Ruled whole → Ruled m × Ruled n

follows : {way : Way} (m n : Members Weights way) → Follows m n (followed m n)
unfolding count depth work_of path_of written Ruled
follows {way} none n = record {
  counts = omega arith;
  writes = λ after. refl;
  deep = omega arith;
  work = omega arith;
  path = sym (none_together way (path_of n));
  ruled = λ r s. s;
  unruled = λ r. (tt, r);
}
follows {way} (graph g m) n = let f = follows m n in record {
  counts = omega (arith, f.counts);
  writes = λ after. ap (λ (rest : List (List ℕ)). graph_entry g ∷ rest) (f.writes after);
  deep = f.deep;
  work = omega (arith, f.work);
  path = ap (together way g.p) f.path ∙ sym (together_on way g.p (path_of m) (path_of n));
  ruled = λ r s. (r.0, f.ruled r.1 s);
  unruled = λ r. let u = f.unruled r.1 in ((r.0, u.0), u.1);
}
follows {way} (opener inner m) n = let f = follows m n in record {
  counts = omega (arith, f.counts);
  writes = λ after.
      ap (λ (rest : List (List ℕ)). opener_entry (other way) (count inner) ∷ rest)
      (append_assoc (written inner) (written (followed m n)) after
      ∙ ap (λ (rest : List (List ℕ)). written inner ++ rest) (f.writes after)
      ∙ sym (append_assoc (written inner) (written m) (written n ++ after)));
  deep = omega (arith, f.deep);
  work = omega (arith, f.work);
  path = ap (together way (path_of inner)) f.path ∙ sym (together_on way (path_of inner) (path_of m) (path_of n));
  ruled = λ r s. (r.0, r.1, f.ruled r.2 s);
  unruled = λ r. let u = f.unruled r.2 in ((r.0, r.1, u.0), u.1);
}

-- the first k members, and the others
record Parts {way : Way} (k : ℕ) (m : Members Weights way) : Type 0 where
  first : Members Weights way
  others : Members Weights way
  many : count first ≡ k
  whole : m ≡ followed first others

parts : {way : Way} (k : ℕ) (m : Members Weights way) → k ≤ count m → Parts k m
unfolding count
parts zero m l = record { first = none; others = m; many = refl; whole = refl }
parts (suc k) none l = absurd (omega (arith, l))
parts (suc k) (graph g m) l = let s = parts k m (omega (arith, l)) in record {
  first = graph g s.first;
  others = s.others;
  many = ap suc s.many;
  whole = ap (graph g) s.whole;
}
parts (suc k) (opener inner m) l = let s = parts k m (omega (arith, l)) in record {
  first = opener inner s.first;
  others = s.others;
  many = ap suc s.many;
  whole = ap (opener inner) s.whole;
}

-- ---- what entries begin with

pub begins_none : {way : Way} {d : ℕ} (entries : List (List ℕ)) → Begins way d 0 entries 0 0 entries
unfolding count depth work_of path_of written Ruled
begins_none entries = record {
  members = none;
  counts = refl;
  writes = refl;
  ruled = tt;
  shallow = omega arith;
  work = refl;
  path = refl;
}

pub begins_more : {way : Way} {d k l : ℕ} {entries next after : List (List ℕ)} {c p x y : ℕ}
    → Begins way d k entries c p next → Begins way d l next x y after → Begins way d (k + l) entries (c + x) (together way p y) after
begins_more {way} {after = after} b o = let f = follows b.members o.members in record {
  members = followed b.members o.members;
  counts = omega (arith, f.counts, b.counts, o.counts);
  writes = b.writes ∙ ap (λ (rest : List (List ℕ)). written b.members ++ rest) o.writes ∙ sym (f.writes after);
  ruled = f.ruled b.ruled o.ruled;
  shallow = omega (arith, f.deep, b.shallow, o.shallow);
  work = omega (arith, f.work, b.work, o.work);
  path = ap₂ (together way) b.path o.path ∙ sym f.path;
}

-- the first k of them, and the others
pub record Split (way : Way) (d k l : ℕ) (entries after : List (List ℕ)) : Type 0 where
  pub between : List (List ℕ)
  pub c : ℕ
  pub p : ℕ
  pub x : ℕ
  pub y : ℕ
  pub first : Begins way d k entries c p between
  pub others : Begins way d l between x y after

pub begins_split : {way : Way} {d many : ℕ} {entries after : List (List ℕ)} {c p : ℕ} (k l : ℕ) → k + l ≡ many
    → Begins way d many entries c p after → Split way d k l entries after
begins_split {after = after} k l e b =
    let s = parts k b.members (omega (arith, b.counts, e)) in
    let f = rw (← s.whole) at (follows s.first s.others) in
    let r = f.unruled b.ruled in record {
      between = written s.others ++ after;
      c = work_of s.first;
      p = path_of s.first;
      x = work_of s.others;
      y = path_of s.others;
      first = record {
        members = s.first;
        counts = s.many;
        writes = b.writes ∙ f.writes after;
        ruled = r.0;
        shallow = omega (arith, f.deep, b.shallow);
        work = refl;
        path = refl;
      };
      others = record {
        members = s.others;
        counts = omega (arith, f.counts, s.many, b.counts, e);
        writes = refl;
        ruled = r.1;
        shallow = omega (arith, f.deep, b.shallow);
        work = refl;
        path = refl;
      };
    }

-- behind as many members, or behind an opener, come the same entries
pub one_begins : {way : Way} {d k : ℕ} {entries next after : List (List ℕ)} {c p x y : ℕ}
    → Begins way d k entries c p next → Begins way d k entries x y after → next ≡ after
one_begins {next = next} {after} b o =
    (one_members b.members o.members next after (b.counts ∙ sym o.counts) (sym b.writes ∙ o.writes)).1

pub one_opens : {way : Way} {d : ℕ} {entries next after : List (List ℕ)} {c p x y : ℕ}
    → Opens way d entries c p next → Opens way d entries x y after → next ≡ after
one_opens {way} o q =
    let same = same_opener way (sym o.opener.writes ∙ q.opener.writes) in
    one_begins (rw (same.0, same.1) at o.begins) q.begins

-- each entry passed adds at most 16,776,960 to C, and P is at most C
pub begins_small : {way : Way} {d k : ℕ} {entries after : List (List ℕ)} {c p : ℕ} → Begins way d k entries c p after
    → (p ≤ c) × (c ≤ 16776960 * length entries)
begins_small {after = after} b =
    let m = b.members in
    let long = ap length b.writes ∙ length-append (written m) after in
    (omega (arith, b.path, b.work, path_work m b.ruled), omega (arith, b.work, work_small m b.ruled, long))

-- ---- one member: a graph, or an opener of the other kind

module _ {way : Way} {d : ℕ} {entries : List (List ℕ)} {c p : ℕ} {after : List (List ℕ)} where
  pub graph_member : BeginsGraph entries c p after → Begins way d 1 entries c p after
  unfolding count depth work_of path_of written Ruled
  graph_member g = record {
    members = graph (weights_of c p) none;
    counts = refl;
    writes = g.writes;
    ruled = (g.in_range, tt);
    shallow = omega arith;
    work = omega arith;
    path = sym (together_none way p);
  }

  pub opener_member : Opens (other way) d entries c p after → Begins way d 1 entries c p after
  unfolding count depth work_of path_of written Ruled
  opener_member o = let b = o.begins in record {
    members = opener b.members none;
    counts = refl;
    writes = o.opener.writes ∙ ap₂ (λ (many : ℕ) (inside : List (List ℕ)). opener_entry (other way) many ∷ inside) (sym b.counts)
        (b.writes ∙ ap (λ (front : List (List ℕ)). front ++ after) (sym (append-nil (written b.members))));
    ruled = (rw b.counts o.opener.in_range, b.ruled, tt);
    shallow = omega (arith, b.shallow, o.deep);
    work = omega (arith, b.work);
    path = b.path ∙ sym (together_none way (path_of b.members));
  }

  -- and it is nothing else
  either : (m : Members Weights way) → count m ≡ 1 → entries ≡ written m ++ after → Ruled m → depth m ≤ d → c ≡ work_of m → p ≡ path_of m
      → BeginsGraph entries c p after ⊎ Opens (other way) d entries c p after
  unfolding count depth work_of path_of written Ruled
  either none e w r s x y = absurd (omega (arith, e))
  either (graph g (graph h m)) e w r s x y = absurd (omega (arith, e))
  either (graph g (opener inner m)) e w r s x y = absurd (omega (arith, e))
  either (opener inner (graph h m)) e w r s x y = absurd (omega (arith, e))
  either (opener inner (opener more m)) e w r s x y = absurd (omega (arith, e))
  either (graph g none) e w r s x y =
      let C : c ≡ g.c = omega (arith, x) in
      let P : p ≡ g.p = y ∙ together_none way g.p in
      inl (record { writes = rw (C, P) w; in_range = rw (C, P) r.0 })
  either (opener inner none) e w r s x y = inr (record {
    many = count inner;
    inside = written inner ++ after;
    opener = record {
      writes = w ∙ ap (λ (front : List (List ℕ)). opener_entry (other way) (count inner) ∷ (front ++ after)) (append-nil (written inner));
      in_range = r.0;
    };
    deep = omega (arith, s);
    begins = record {
      members = inner;
      counts = refl;
      writes = refl;
      ruled = r.1;
      shallow = omega (arith, s);
      work = omega (arith, x);
      path = y ∙ together_none way (path_of inner);
    };
  })

  pub member_either : Begins way d 1 entries c p after → BeginsGraph entries c p after ⊎ Opens (other way) d entries c p after
  member_either b = either b.members b.counts b.writes b.ruled b.shallow b.work b.path
