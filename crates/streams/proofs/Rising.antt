-- What an accepted list of pairs is: each pair lawful, and after the one before. Assumes nothing.
use mathlib.Core.Path.{◌≡◌, refl, subst}
use mathlib.Core.Logic.{⊎_elim}
use mathlib.Core.Bool.{not}
use mathlib.Core.List.{List, [], ◌∷◌}
use Prim.Native.Nat.{ℕ, suc, ◌+◌, ◌-◌, ◌*◌, ◌/◌, ◌%◌, ◌≤◌, ◌<◌}
use native.Mathlib.Omega.{arith}
use borrow.Author.Tests.{lt-ltb, le-ltb, eq-eqb, ne_eqb, ltb-true, ltb-false, eqb-false, not-false}
use lib.Dec.{ltb, eqb}
use lib.ListN.{length, get_or, drop}
use lib.Seq.{drop-cons}
use Rattle.laws.proofs.Orders.{same_or_not}
use Rattle.refusals.specs.Outcome.{accepted}
use Rattle.refusals.proofs.Refusing.{took}
use Rattle.pair_lists.specs.Lists.{judged_from, pairs_judged}
use Rattle.streams.specs.Written.{predicted}

-- ---- the column that is predicted

pub predicted_same : (row_step next : ℕ) → row_step ≡ 0 → predicted row_step next ≡ next
predicted_same row_step next e = rw (eq-eqb row_step 0 e)

pub predicted_changed : (row_step next : ℕ) → (row_step ≡ 0 → ⊥) → predicted row_step next ≡ 0
predicted_changed row_step next h = rw (ne_eqb row_step 0 h)

-- ---- one pair

-- a pair that may come after a row, where the column `next` is predicted in that row
pub record Follows (k row next pair : ℕ) : Type 0 where
  pub below : pair / 64 < k
  pub lawful : pair ≡ 4294967295 → ⊥
  pub rises : row ≤ pair / 64
  pub right : predicted (pair / 64 - row) next ≤ pair % 64

module _ (k row next pair : ℕ) (inside : next ≤ 64) where
  -- it is at least the number that the row and the column make
  pub follows : pair / 64 < k → (pair ≡ 4294967295 → ⊥) → 64 * row + next ≤ pair → Follows k row next pair
  follows l h g = record {
    below = l;
    lawful = h;
    rises = omega arith;
    right =
        ⊎_elim (λ (e : pair / 64 - row ≡ 0). omega (arith, predicted_same (pair / 64 - row) next e))
        (λ (e : pair / 64 - row ≡ 0 → ⊥). omega (arith, predicted_changed (pair / 64 - row) next e)) (same_or_not (pair / 64 - row) 0);
  }

  pub above : Follows k row next pair → 64 * row + next ≤ pair
  above f =
      ⊎_elim (λ (e : pair / 64 - row ≡ 0). omega (arith, predicted_same (pair / 64 - row) next e))
      (λ (e : pair / 64 - row ≡ 0 → ⊥). let c : row < pair / 64 = more e in omega arith) (same_or_not (pair / 64 - row) 0)
    where
      more : (pair / 64 - row ≡ 0 → ⊥) → row < pair / 64
      more e = omega arith

-- ---- the list

-- a list of pairs that may come after a row, where the column `next` is predicted in that row
pub data Rising (k : ℕ) : ℕ → ℕ → List ℕ → Type 0 where
  none : {row next : ℕ} → Rising k row next []
  one : {row next pair : ℕ} {more : List ℕ} → Follows k row next pair → Rising k (pair / 64) (pair % 64 + 1) more → Rising k row next (pair ∷ more)

pub rising_from : (k place least row next : ℕ) (pairs : List ℕ) → least ≡ 64 * row + next → next ≤ 64 → judged_from k place least pairs ≡ accepted []
    → Rising k row next pairs
unfolding judged_from
rising_from k place least row next [] el l e = none
rising_from k place least row next (pair ∷ more) el l e =
    let a = took (not (ltb (pair / 64) k)) _ 8 place [] e in
    let b = took (ltb pair least) _ 11 place [] a.1 in
    let c = took (eqb pair 4294967295) _ 10 place [] b.1 in
    one
    (follows k row next pair l (ltb-true (pair / 64) k (not-false (ltb (pair / 64) k) a.0)) (eqb-false pair 4294967295 c.0)
    (omega (arith, ltb-false pair least b.0)))
    (rising_from k (suc place) (suc pair) (pair / 64) (pair % 64 + 1) more (omega arith) (omega arith) c.1)

pub judged_from_is : {k row next : ℕ} {pairs : List ℕ} (place least : ℕ) → least ≡ 64 * row + next → next ≤ 64 → Rising k row next pairs
    → judged_from k place least pairs ≡ accepted []
unfolding judged_from
judged_from_is place least el l none = refl
judged_from_is {k} {row} {next} place least el l (one {pair = pair} f more) =
    let g = above k row next pair l f in
    rw (lt-ltb (pair / 64) k f.below, le-ltb pair least (omega arith), ne_eqb pair 4294967295 f.lawful)
    (judged_from_is (suc place) (suc pair) (omega arith) (omega arith) more)

-- an accepted list is rising, and a rising list is accepted
pub rising : (k : ℕ) (pairs : List ℕ) → pairs_judged k pairs ≡ accepted [] → Rising k 0 0 pairs
rising k pairs e = rising_from k 0 0 0 0 pairs refl (omega arith) e

pub judged : {k : ℕ} {pairs : List ℕ} → Rising k 0 0 pairs → pairs_judged k pairs ≡ accepted []
judged r = judged_from_is 0 0 refl (omega arith) r

-- ---- the pair at a place, for a walk from the front

rising_head : {k row next pair : ℕ} {more : List ℕ} → Rising k row next (pair ∷ more) → Follows k row next pair × Rising k (pair / 64) (pair % 64 + 1) more
rising_head (one f more) = (f, more)

pub rising_at : {k row next : ℕ} (pairs : List ℕ) (i : ℕ) → i < length pairs → Rising k row next (drop i pairs)
    → Follows k row next (get_or pairs i 0) × Rising k (get_or pairs i 0 / 64) (get_or pairs i 0 % 64 + 1) (drop (suc i) pairs)
rising_at {k} {row} {next} pairs i l r = rising_head (subst (λ (p : List ℕ). Rising k row next p) (drop-cons pairs i 0 l) r)
