-- Building a table from a list: it takes every item exactly if none stands twice, and stops at the first that stands earlier in the list. Assumes nothing.
use mathlib.Core.Path.{◌≡◌, refl, sym, ap, ◌∙◌, subst}
use mathlib.Core.Bool.{Bool, true, false, true≢false}
use mathlib.Core.Logic.{inl, inr, ⊎_elim}
use mathlib.Core.List.{List, []}
use Prim.Native.Nat.{ℕ, zero, suc, ◌+◌, ◌*◌, ◌^◌, ◌≤◌, ◌<◌}
use native.Mathlib.Omega.{arith}
use native.Mathlib.Nat.{eq-or-lt_of_le}
use native.Mathlib.Numerals.{add-one}
use lib.ListN.{length, get_or}
use Rattle.laws.specs.Choose.{choose}
use Rattle.laws.proofs.Truths.{never_true}
use Rattle.refusals.specs.Outcome.{accepted, refused}
use Rattle.tables.specs.Slots.{empty, spot, holds}
use Rattle.tables.specs.Changes.{place, fill}
use Rattle.tables.specs.Calls.{twice_judged}
use Rattle.tables.specs.Shapes.{Lawful, Member, EachNew, Built}
use Rattle.tables.proofs.Laws.{at_or_below}
use Rattle.tables.proofs.Placing.{spot_lt, at_end, place_lawful, place_member, member_place}
use Rattle.tables.proofs.Refilled.{fill_one, none_in}
use Rattle.tables.proofs.Items.{Fine, never}
use Rattle.tables.proofs.Bridges.{holds_at, at_holds}

-- no item from index i on stands earlier in the list
pub twice_none : (list : List ℕ) (left i : ℕ) → ((k : ℕ) → i ≤ k → k < i + left → holds list k (get_or list k 0) ≡ false) → twice_judged list left i ≡ accepted []
unfolding twice_judged
twice_none list zero i f = refl
twice_none list (suc left) i f = rw (f i (omega arith) (omega arith)) (twice_none list left (suc i) (λ k h l. f k (omega arith) (omega arith)))

-- the first that does is r
pub twice_first : (list : List ℕ) (left i r : ℕ) → i ≤ r → r < i + left → ((k : ℕ) → i ≤ k → k < r → holds list k (get_or list k 0) ≡ false)
    → holds list r (get_or list r 0) ≡ true → twice_judged list left i ≡ refused 11 r
unfolding twice_judged
twice_first list zero i r h l f t = absurd (omega arith)
twice_first list (suc left) i r h l f t = ⊎_elim
    (λ (e : i ≡ r). subst (λ (k : ℕ). choose (holds list k (get_or list k 0)) (refused 11 k) (twice_judged list left (suc k)) ≡ refused 11 r) (sym e) (rw t))
    (λ (m : i < r). rw (f i (omega arith) m) (twice_first list left (suc i) r m (omega arith) (λ k a b. f k (omega arith) b) t))
    (eq-or-lt_of_le h)

-- a list that is accepted has none that stands earlier
pub none_twice : (list : List ℕ) (left i : ℕ) {values : List ℕ} → twice_judged list left i ≡ accepted values → (k : ℕ) → i ≤ k → k < i + left → holds list k (get_or list k 0) ≡ false
unfolding twice_judged
none_twice list zero i e k h l = absurd (omega arith)
none_twice list (suc left) i {values} e k h l = go (λ f m. none_twice list left (suc i) f k m (omega arith)) (holds list i (get_or list i 0)) refl e
  where
    go : (twice_judged list left (suc i) ≡ accepted values → i < k → holds list k (get_or list k 0) ≡ false) → (b : Bool) → holds list i (get_or list i 0) ≡ b → choose b (refused 11 i) (twice_judged list left (suc i)) ≡ accepted values → holds list k (get_or list k 0) ≡ false
    go ih true t e = absurd (never e)
    go ih false t e = ⊎_elim
        (λ (z : i ≡ k). subst (λ (j : ℕ). holds list j (get_or list j 0) ≡ false) z t)
        (λ (m : i < k). ih e m)
        (eq-or-lt_of_le h)

-- A list o of fine items, stored one after the other in an empty table t with room for all.
module _ (o t : List ℕ) (lg v : ℕ) (base : Lawful t lg v 0) (fine : (k : ℕ) → k < length o → Fine v (get_or o k 0)) (load : 4 * length o ≤ 3 * 2 ^ lg) where
  abbrev Listed : ℕ → ℕ → Type 0
  Listed k y = (p : ℕ) × (p < k) × (get_or o p 0 ≡ y)

  -- s holds exactly the first k items
  record Upto (s : List ℕ) (k : ℕ) : Type 0 where
    lawful : Lawful s lg v k
    listed : (y : ℕ) → Member s (2 ^ lg) y → Listed k y
    stored : (y : ℕ) → (y ≡ empty → ⊥) → Listed k y → Member s (2 ^ lg) y

  none : Upto t 0
  none = record { lawful = base; listed = λ y m. absurd (none_in t lg v base y m); stored = λ y d m. absurd (omega (arith, m.1)) }

  one_more : (s : List ℕ) (k : ℕ) → k < length o → Upto s k → (Member s (2 ^ lg) (get_or o k 0) → ⊥) → Upto (place s lg v (get_or o k 0)) (k + 1)
  one_more s k h u new = record {
    lawful = place_lawful s lg v k x u.lawful xs xe qn e (omega arith);
    listed = λ y m. ⊎_elim (λ (w : Member s (2 ^ lg) y). let r = u.listed y w in (r.0, omega arith, r.2)) (λ (z : y ≡ x). (k, omega arith, sym z))
        (place_member s lg v k x u.lawful xs xe qn e y m);
    stored = λ y d w. member_place s lg v k x u.lawful xs xe qn e y
        (⊎_elim (λ (z : w.0 ≡ k). inr (sym w.2 ∙ ap (λ (j : ℕ). get_or o j 0) z)) (λ (z : w.0 < k). inl (u.stored y d (w.0, z, w.2))) (at_or_below w.1));
  }
    where
      x : ℕ
      x = get_or o k 0

      xs : get_or o k 0 < 2 ^ v
      xs = (fine k h).small

      xe : get_or o k 0 ≡ empty → ⊥
      xe = (fine k h).full

      qn : spot s lg v (get_or o k 0) < 2 ^ lg
      qn = spot_lt s lg v k (get_or o k 0) u.lawful xs xe

      e : get_or s (spot s lg v (get_or o k 0)) 0 ≡ empty
      e = at_end s lg v k (get_or o k 0) u.lawful xs xe (λ z. new (spot s lg v (get_or o k 0), qn, z, xe))

  upto : (r : ℕ) → r ≤ length o → EachNew o t lg v r → Upto (fill o r t lg v) r
  unfolding fill
  upto zero h f = none
  upto (suc r) h f =
      subst (λ (k : ℕ). Upto (fill o k t lg v) k) (add-one r)
      (rw (fill_one o r t lg v (fine r h).full) (one_more (fill o r t lg v) r h (upto r (omega arith) (λ k l. f k (omega arith))) (f r (omega arith))))

  -- a new item stands nowhere earlier in the list
  pub fresh_holds : (k : ℕ) → k < length o → EachNew o t lg v k
      → (Member (fill o k t lg v) (2 ^ lg) (get_or o k 0) → ⊥) → holds o k (get_or o k 0) ≡ false
  fresh_holds k h f new = never_true (holds o k (get_or o k 0)) (λ e. new ((upto k (omega arith) f).stored (get_or o k 0) (fine k h).full (holds_at o k (get_or o k 0) e)))

  -- one that the table has stands earlier
  pub stored_holds : (k : ℕ) → k < length o → EachNew o t lg v k
      → Member (fill o k t lg v) (2 ^ lg) (get_or o k 0) → holds o k (get_or o k 0) ≡ true
  stored_holds k h f m = let r = (upto k (omega arith) f).listed (get_or o k 0) m in at_holds o k (get_or o k 0) r.0 r.1 r.2

  -- what was built is what the list's judgement says: r of them went in, all if none stands twice, else r is the first that stands earlier
  module _ (u : List ℕ) (r : ℕ) (b : Built o t u lg v r) where
    earlier : (k : ℕ) → 0 ≤ k → k < r → holds o k (get_or o k 0) ≡ false
    earlier k z l = fresh_holds k (omega (arith, b.within)) (λ j m. b.fresh j (omega arith)) (b.fresh k l)

    -- all went in: none stands twice
    pub built_whole : r ≡ length o → twice_judged o (length o) 0 ≡ accepted []
    built_whole e = twice_none o (length o) 0 (λ k z l. earlier k z (omega arith))

    -- r did, and not all: r is the first that stands earlier
    pub built_stopped : r < length o → twice_judged o (length o) 0 ≡ refused 11 r
    built_stopped l = twice_first o (length o) 0 r (omega arith) (omega arith) earlier (stored_holds r l b.fresh (rw (← b.now_is) (b.stopped l)))

  -- A list in which none stands twice, built: a lawful table that holds exactly its items.
  module _ (once : twice_judged o (length o) 0 ≡ accepted []) where
    fresh_at : (r : ℕ) → r < length o → EachNew o t lg v r → Member (fill o r t lg v) (2 ^ lg) (get_or o r 0) → ⊥
    fresh_at r h f m =
        let w = (upto r (omega arith) f).listed (get_or o r 0) m in
        true≢false (sym (at_holds o r (get_or o r 0) w.0 w.1 w.2) ∙ none_twice o (length o) 0 once r (omega arith) (omega arith))

    fresh_more : (r : ℕ) → r < length o → EachNew o t lg v r → EachNew o t lg v (suc r)
    fresh_more r h f k l m = ⊎_elim
        (λ (e : k ≡ r). fresh_at r h f (subst (λ (j : ℕ). Member (fill o j t lg v) (2 ^ lg) (get_or o j 0)) e m))
        (λ (j : k < r). f k j m)
        (at_or_below {p = k} {i = r} (omega arith))

    all_fresh : (r : ℕ) → r ≤ length o → EachNew o t lg v r
    all_fresh zero h = λ k l. absurd (omega arith)
    all_fresh (suc r) h = fresh_more r h (all_fresh r (omega arith))

    whole : Upto (fill o (length o) t lg v) (length o)
    whole = upto (length o) (omega arith) (all_fresh (length o) (omega arith))

    -- it is lawful, with as many items as the list
    pub build_lawful : Lawful (fill o (length o) t lg v) lg v (length o)
    build_lawful = whole.lawful

    -- what it holds is listed
    pub build_listed : (y : ℕ) → Member (fill o (length o) t lg v) (2 ^ lg) y → (p : ℕ) × (p < length o) × (get_or o p 0 ≡ y)
    build_listed = whole.listed

    -- what is listed it holds
    pub build_stored : (p : ℕ) → p < length o → Member (fill o (length o) t lg v) (2 ^ lg) (get_or o p 0)
    build_stored p h = whole.stored (get_or o p 0) (fine p h).full (p, h, refl)
