-- Storing the items of one table in another. Assumes nothing.
use mathlib.Core.Path.{◌≡◌, refl, sym, ap, ◌∙◌, subst}
use mathlib.Core.Bool.{Bool, true, false, true≢false}
use mathlib.Core.Logic.{◌⊎◌, inl, inr, ⊎_elim}
use mathlib.Core.List.{List}
use Prim.Native.Nat.{ℕ, zero, suc, ◌+◌, ◌*◌, ◌^◌, ◌≤◌, ◌<◌}
use native.Mathlib.Omega.{arith}
use native.Mathlib.Nat.{pow-suc}
use lib.Pow.{pow_mono}
use native.Mathlib.Numerals.{add-one}
use lib.ListN.{length, get_or, set, replicate, length-replicate, get_or-replicate}
use lib.Dec.{eqb}
use lib.Arith.{le_of_le-suc-ne}
use borrow.Author.Tests.{eq-eqb, ne_eqb}
use Rattle.laws.specs.Choose.{choose}
use Rattle.laws.proofs.Orders.{same_or_not}
use Rattle.tables.specs.Slots.{empty, spot, held, total, items}
use Rattle.tables.specs.Changes.{place, fill, rebuilt}
use Rattle.tables.specs.Shapes.{Lawful, Sound, Member, AllSmall, Grown}
use Rattle.tables.proofs.Laws.{held_empty, held_full, items_full}
use Rattle.tables.proofs.Tally.{total_set, one, one_same, one_other, tally_at, tally_some, once_placed}
use Rattle.tables.proofs.Placing.{place_lawful, place_sound, place_member, member_place, only_there, at_end, spot_lt, length_place}

-- an empty slot adds nothing
pub fill_none : (o : List ℕ) (k : ℕ) (t : List ℕ) (lg v : ℕ) → get_or o k 0 ≡ empty → fill o (k + 1) t lg v ≡ fill o k t lg v
unfolding fill
fill_none o k t lg v e = rw (add-one k) (simp (eq-eqb (get_or o k 0) empty e))

-- an item is stored
pub fill_one : (o : List ℕ) (k : ℕ) (t : List ℕ) (lg v : ℕ) → (get_or o k 0 ≡ empty → ⊥) → fill o (k + 1) t lg v ≡ place (fill o k t lg v) lg v (get_or o k 0)
unfolding fill
fill_one o k t lg v d = rw (add-one k) (simp (ne_eqb (get_or o k 0) empty d))

-- the region keeps its length
pub length_fill : (o : List ℕ) (k : ℕ) (t : List ℕ) (lg v : ℕ) → length (fill o k t lg v) ≡ length t
unfolding fill
length_fill o zero t lg v = refl
length_fill o (suc k) t lg v = either (eqb (get_or o k 0) empty) (length_fill o k t lg v)
  where
    either : (b : Bool) → length (fill o k t lg v) ≡ length t → length (choose b (fill o k t lg v) (place (fill o k t lg v) lg v (get_or o k 0))) ≡ length t
    either true e = e
    either false e = length_place (fill o k t lg v) lg v (get_or o k 0) ∙ e

-- more slots have no smaller sum
pub total_mono : (f : ℕ → ℕ) (s : List ℕ) (k n : ℕ) → k ≤ n → total f s k ≤ total f s n
unfolding total
total_mono f s k zero h = let e : k ≡ 0 = omega arith in rw e (omega arith)
total_mono f s k (suc n) h = go (total_mono f s k n) (same_or_not k (suc n))
  where
    go : (k ≤ n → total f s k ≤ total f s n) → (k ≡ suc n) ⊎ (k ≡ suc n → ⊥) → total f s k ≤ total f s n + f (get_or s n 0)
    go ih (inl e) = rw e (omega arith)
    go ih (inr d) = let h : k ≤ n = le_of_le-suc-ne h d in omega (arith, ih h)

-- a slot that holds an item counts
pub items_some : (s : List ℕ) (n p : ℕ) → p < n → (get_or s p 0 ≡ empty → ⊥) → 0 < items s n
items_some s n p h f = omega (arith, total_mono held s (p + 1) n (omega arith), items_full s p f)

-- a table of no items holds none
pub none_in : (s : List ℕ) (lg v : ℕ) → Lawful s lg v 0 → (y : ℕ) → Member s (2 ^ lg) y → ⊥
none_in s lg v l y m = omega (arith, items_some s (2 ^ lg) m.0 m.1 (λ e. m.3 (sym m.2 ∙ e)), l.count)

-- a lawful table s of c items, and an item y that it lacks
place_new : (s : List ℕ) (lg v c y : ℕ) → Lawful s lg v c → y < 2 ^ v → (y ≡ empty → ⊥) → total (one y) s (2 ^ lg) ≡ 0 → 4 * (c + 1) ≤ 3 * 2 ^ lg
    → Lawful (place s lg v y) lg v (c + 1) × ((f : ℕ → ℕ) → f empty ≡ 0 → total f (place s lg v y) (2 ^ lg) ≡ total f s (2 ^ lg) + f y)
unfolding place
place_new s lg v c y l ys ye none room =
    let qn : spot s lg v y < 2 ^ lg = spot_lt s lg v c y l ys ye in
    let ql : spot s lg v y < length s = omega (arith, l.room) in
    let e : get_or s (spot s lg v y) 0 ≡ empty = at_end s lg v c y l ys ye (λ g. omega (arith, tally_at y s (2 ^ lg) (spot s lg v y) qn g)) in
    (place_lawful s lg v c y l ys ye qn e room, λ f z. omega (arith, total_set f s (spot s lg v y) y (2 ^ lg) qn ql, ap f e))

module _ (o : List ℕ) (m : ℕ) (t : List ℕ) (lg v : ℕ) (small : AllSmall o m v) (once : (y : ℕ) → (y ≡ empty → ⊥) → total (one y) o m ≤ 1)
    (base : Lawful t lg v 0) (blank : (f : ℕ → ℕ) → f empty ≡ 0 → total f t (2 ^ lg) ≡ 0) (load : 4 * items o m ≤ 3 * 2 ^ lg) where
  abbrev Good : ℕ → Type 0
  Good k = Lawful (fill o k t lg v) lg v (items o k) × ((f : ℕ → ℕ) → f empty ≡ 0 → total f (fill o k t lg v) (2 ^ lg) ≡ total f o k)

  more : (f : ℕ → ℕ) (k : ℕ) → total f o (k + 1) ≡ total f o k + f (get_or o k 0)
  unfolding total
  more f k = rw (add-one k)

  next_good : (k : ℕ) → k < m → Good k → Good (k + 1)
  next_good k h g = ⊎_elim none one_more (same_or_not (get_or o k 0) empty)
    where
      y : ℕ
      y = get_or o k 0

      none : get_or o k 0 ≡ empty → Good (k + 1)
      none e =
          let i : items o (k + 1) ≡ items o k = more held k ∙ omega (arith, held_empty (get_or o k 0) e) in
          rw (fill_none o k t lg v e, i) (g.0, λ f z. g.1 f z ∙ omega (arith, more f k, ap f e))

      one_more : (get_or o k 0 ≡ empty → ⊥) → Good (k + 1)
      one_more d =
          let i : items o (k + 1) ≡ items o k + 1 = more held k ∙ omega (arith, held_full (get_or o k 0) d) in
          let u : total (one (get_or o k 0)) (fill o k t lg v) (2 ^ lg) ≡ 0 = omega (arith, g.1 (one (get_or o k 0)) (one_other (get_or o k 0) empty (λ z. d (sym z))), more (one (get_or o k 0)) k, one_same (get_or o k 0) (get_or o k 0) refl, once (get_or o k 0) d, total_mono (one (get_or o k 0)) o (k + 1) m (omega arith)) in
          let p = place_new (fill o k t lg v) lg v (items o k) (get_or o k 0) g.0 (small k h d) d u (omega (arith, i, total_mono held o (k + 1) m (omega arith))) in
          rw (fill_one o k t lg v d, i) (p.0, λ f z. p.1 f z ∙ omega (arith, g.1 f z, more f k))

  -- after k slots the table is lawful, and any sum over it is the sum over those slots
  pub fill_good : (k : ℕ) → k ≤ m → Good k
  unfolding total fill
  fill_good zero h = (base, blank)
  fill_good (suc k) h = subst Good (add-one k) (next_good k h (fill_good k (omega arith)))

total_blank : (f : ℕ → ℕ) (n k : ℕ) → f empty ≡ 0 → k ≤ n → total f (replicate n empty) k ≡ 0
unfolding total
total_blank f n zero z h = refl
total_blank f n (suc k) z h = omega (arith, total_blank f n k z (omega arith), ap f (get_or-replicate n k empty 0 h))

-- a region that is all empty slots is a lawful table of no items
pub blank_lawful : (n lg v : ℕ) → 2 ≤ lg → lg ≤ 26 → lg < v → v ≤ 32 → 2 ^ lg ≤ n → Lawful (replicate n empty) lg v 0
blank_lawful n lg v a b d e room = record {
  lg_least = a;
  lg_most = b;
  bits_least = d;
  bits_most = e;
  room = rw (length-replicate n empty) room;
  count = total_blank held n (2 ^ lg) (held_empty empty refl) room;
  load = omega arith;
  placed = λ p h f. absurd (f (get_or-replicate n p empty 0 (omega arith)));
  beyond = λ p h m. get_or-replicate n p empty 0 (rw (length-replicate n empty) at m);
}

-- A rebuild keeps the count and the set.
module _ (s : List ℕ) (lg v c to : ℕ) (l : Sound s lg v c) (least : 2 ≤ to) (most : to ≤ 26) (bits : to < v) (room : 2 ^ to ≤ length s) (load : 4 * c ≤ 3 * 2 ^ to) where
  good : Good s (2 ^ lg) (replicate (length s) empty) to v (λ p h f. (l.placed p h f).small) (once_placed s lg v l.room l.placed) (blank_lawful (length s) to v least most bits l.bits_most room)
      (λ f z. total_blank f (length s) (2 ^ to) z room) (rw l.count load) (2 ^ lg)
  good = fill_good s (2 ^ lg) (replicate (length s) empty) to v (λ p h f. (l.placed p h f).small) (once_placed s lg v l.room l.placed) (blank_lawful (length s) to v least most bits l.bits_most room)
      (λ f z. total_blank f (length s) (2 ^ to) z room) (rw l.count load) (2 ^ lg) (omega arith)

  -- the rebuild is lawful
  pub rebuilt_lawful : Lawful (rebuilt s lg to v) to v c
  unfolding rebuilt
  rebuilt_lawful = rw l.count at good.0

  -- it holds what was there
  pub rebuilt_has : (y : ℕ) → Member s (2 ^ lg) y → Member (rebuilt s lg to v) (2 ^ to) y
  unfolding rebuilt
  rebuilt_has y w =
      let e = good.1 (one y) (one_other y empty (λ z. w.3 (sym z))) in
      let p = tally_some y (fill s (2 ^ lg) (replicate (length s) empty) to v) (2 ^ to) (omega (arith, tally_at y s (2 ^ lg) w.0 w.1 w.2)) in
      (p.0, p.1, p.2, w.3)

  -- and nothing else
  pub rebuilt_only : (y : ℕ) → Member (rebuilt s lg to v) (2 ^ to) y → Member s (2 ^ lg) y
  unfolding rebuilt
  rebuilt_only y w =
      let e = good.1 (one y) (one_other y empty (λ z. w.3 (sym z))) in
      let p = tally_some y s (2 ^ lg) (omega (arith, tally_at y (fill s (2 ^ lg) (replicate (length s) empty) to v) (2 ^ to) w.0 w.1 w.2)) in
      (p.0, p.1, p.2, w.3)

four : (lg : ℕ) → 2 ≤ lg → 4 ≤ 2 ^ lg
four lg h = pow_mono {i = 2} {j = lg} h

-- Storing a new x in a table that must grow.
pub grown_new : (s : List ℕ) (lg v c x q : ℕ) → Lawful s lg v c → x < 2 ^ v → (x ≡ empty → ⊥) → lg < 26 → lg + 1 < v → 2 ^ (lg + 1) ≤ length s
    → q ≡ spot s lg v x → q < 2 ^ lg → (get_or s q 0 ≡ x → ⊥) → Grown s (rebuilt (set s q x) lg (lg + 1) v) lg v c x true
unfolding place
grown_new s lg v c x q l xs xe small bits room z qn d = rw z (go (rw z at qn) (at_end s lg v c x l xs xe (rw z at d)))
  where
    double : 2 ^ (lg + 1) ≡ 2 ^ lg * 2
    double = ap (λ (k : ℕ). 2 ^ k) (add-one lg) ∙ pow-suc 2 lg

    go : spot s lg v x < 2 ^ lg → get_or s (spot s lg v x) 0 ≡ empty → Grown s (rebuilt (set s (spot s lg v x) x) lg (lg + 1) v) lg v c x true
    go h e =
        let w : Sound (place s lg v x) lg v (c + 1) = place_sound s lg v c x l xs xe h e in
        let k : 2 ^ (lg + 1) ≤ length (place s lg v x) = rw (length_place s lg v x) room in
        let f : 4 * (c + 1) ≤ 3 * 2 ^ (lg + 1) = omega (arith, double, l.load, four lg l.lg_least) in
        let least : 2 ≤ lg + 1 = omega (arith, l.lg_least) in
        let most : lg + 1 ≤ 26 = omega arith in
        record {
          was = λ r. absurd (true≢false r);
          kept = λ r. absurd (true≢false r);
          new = λ r m. xe (sym (only_there s lg v c x l xs xe m) ∙ e);
          now_is = λ r. refl;
          lawful = λ r. rebuilt_lawful (place s lg v x) lg v (c + 1) (lg + 1) w least most bits k f;
          holds = λ r y m. place_member s lg v c x l xs xe h e y (rebuilt_only (place s lg v x) lg v (c + 1) (lg + 1) w least most bits k f y m);
          held_on = λ r y m. rebuilt_has (place s lg v x) lg v (c + 1) (lg + 1) w least most bits k f y (member_place s lg v c x l xs xe h e y m);
        }
