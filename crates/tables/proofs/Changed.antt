-- What an insert and a delete leave: a lawful table of the set with x, or without it. Assumes nothing.
use mathlib.Core.Path.{◌≡◌, refl, ◌∙◌}
use mathlib.Core.Bool.{Bool, true, false}
use mathlib.Core.Logic.{◌⊎◌, inl, inr}
use mathlib.Core.List.{List}
use Prim.Native.Nat.{ℕ, zero, suc, ◌+◌, ◌-◌, ◌*◌, ◌^◌, ◌≤◌, ◌<◌}
use lib.ListN.{length, get_or, set, length-set}
use lib.Dec.{eqb}
use borrow.Author.Tests.{leb-true}
use Rattle.laws.specs.Choose.{choose}
use Rattle.tables.specs.Slots.{empty, spot, next}
use Rattle.tables.specs.Changes.{place, reseat, remove, rebuilt, fits, inserted, halved_lg, deleted}
use Rattle.tables.specs.Shapes.{Lawful, Member, Stored, Grown, Removed}
use Rattle.tables.proofs.Placing.{spot_lt, only_there, length_place, stored_new}
use Rattle.tables.proofs.Delete.{removed_some}
use Rattle.tables.proofs.Refilled.{grown_new}
use Rattle.tables.proofs.Items.{Fine}
use Rattle.tables.proofs.Halving.{length_rebuilt, Halved, halved_is}

-- the first k slots of t stand for the set of the first n of s, with x
pub record Added (s : List ℕ) (n : ℕ) (t : List ℕ) (k x : ℕ) : Type 0 where
  pub has : Member t k x
  pub keeps : (y : ℕ) → Member s n y → Member t k y
  pub only : (y : ℕ) → Member t k y → Member s n y ⊎ (y ≡ x)

-- and for that set without x
pub record Taken (s : List ℕ) (n : ℕ) (t : List ℕ) (k x : ℕ) : Type 0 where
  pub gone : Member t k x → ⊥
  pub keeps : (y : ℕ) → Member s n y → (y ≡ x → ⊥) → Member t k y
  pub only : (y : ℕ) → Member t k y → Member s n y

-- A new item x.
module _ (s : List ℕ) (lg v c x : ℕ) (l : Lawful s lg v c) (w : Fine v x) (new : Member s (2 ^ lg) x → ⊥) where
  qn : spot s lg v x < 2 ^ lg
  qn = spot_lt s lg v c x l w.small w.full

  not_there : get_or s (spot s lg v x) 0 ≡ x → ⊥
  not_there e = new (spot s lg v x, qn, e, w.full)

  -- the region keeps its length
  pub length_inserted : length (inserted s lg v c x) ≡ length s
  unfolding inserted
  length_inserted = go (fits (c + 1) lg)
    where
      go : (b : Bool) → length (choose b (place s lg v x) (rebuilt (place s lg v x) lg (lg + 1) v)) ≡ length s
      go true = length_place s lg v x
      go false = length_rebuilt (place s lg v x) lg (lg + 1) v ∙ length_place s lg v x

  -- it goes without growth
  module _ (room : fits (c + 1) lg ≡ true) where
    stored : Stored s (place s lg v x) lg v c x true
    unfolding place
    stored = stored_new s lg v c x (spot s lg v x) l w.small w.full (leb-true (4 * (c + 1)) (3 * 2 ^ lg) room) refl qn not_there

    is_place : inserted s lg v c x ≡ place s lg v x
    unfolding inserted
    is_place = rw room

    -- the table is lawful, at the same lg
    pub kept_lawful : Lawful (inserted s lg v c x) lg v (c + 1)
    kept_lawful = rw is_place (stored.lawful refl)

    -- and stands for the set with x
    pub kept_set : Added s (2 ^ lg) (inserted s lg v c x) (2 ^ lg) x
    kept_set = rw is_place (record { has = stored.held_on refl x (inr refl); keeps = λ y m. stored.held_on refl y (inl m); only = stored.holds refl })

  -- it must grow, and may
  module _ (room : fits (c + 1) lg ≡ false) (most : lg < 26) (bits : lg + 1 < v) (long : 2 ^ (lg + 1) ≤ length s) where
    grown : Grown s (rebuilt (place s lg v x) lg (lg + 1) v) lg v c x true
    unfolding place
    grown = grown_new s lg v c x (spot s lg v x) l w.small w.full most bits long refl qn not_there

    is_rebuilt : inserted s lg v c x ≡ rebuilt (place s lg v x) lg (lg + 1) v
    unfolding inserted
    is_rebuilt = rw room

    -- the table is lawful, at one lg more
    pub grown_lawful : Lawful (inserted s lg v c x) (lg + 1) v (c + 1)
    grown_lawful = rw is_rebuilt (grown.lawful refl)

    -- and stands for the set with x
    pub grown_set : Added s (2 ^ lg) (inserted s lg v c x) (2 ^ (lg + 1)) x
    grown_set = rw is_rebuilt (record { has = grown.held_on refl x (inr refl); keeps = λ y m. grown.held_on refl y (inl m); only = grown.holds refl })

length_reseat : (s : List ℕ) (lg v left p : ℕ) → length (reseat s lg v left p) ≡ length s
unfolding reseat
length_reseat s lg v zero p = refl
length_reseat s lg v (suc left) p =
    go (eqb (get_or s p 0) empty) (length_reseat (place (set s p empty) lg v (get_or s p 0)) lg v left (next (2 ^ lg) p) ∙ length_place (set s p empty) lg v (get_or s p 0) ∙ length-set s p empty)
  where
    go : (b : Bool) → length (reseat (place (set s p empty) lg v (get_or s p 0)) lg v left (next (2 ^ lg) p)) ≡ length s
        → length (choose b s (reseat (place (set s p empty) lg v (get_or s p 0)) lg v left (next (2 ^ lg) p))) ≡ length s
    go true e = refl
    go false e = e

length_remove : (s : List ℕ) (lg v x : ℕ) → length (remove s lg v x) ≡ length s
unfolding remove
length_remove s lg v x = length_reseat (set s (spot s lg v x) empty) lg v (2 ^ lg) (next (2 ^ lg) (spot s lg v x)) ∙ length-set s (spot s lg v x) empty

-- An item x that is there.
module _ (s : List ℕ) (lg v c x : ℕ) (l : Lawful s lg v c) (w : Fine v x) (has : Member s (2 ^ lg) x) where
  removed : Removed s (remove s lg v x) lg v c x true
  unfolding remove
  removed = removed_some s lg v c x (spot s lg v x) l w.full refl (spot_lt s lg v c x l w.small w.full) (only_there s lg v c x l w.small w.full has)

  half : Halved (remove s lg v x) (deleted s lg v c x) lg (halved_lg lg lg (c - 1)) v (c - 1)
  unfolding deleted
  half = halved_is lg (remove s lg v x) lg v (c - 1) (removed.lawful refl)

  -- the table is lawful, at the lg that halving ends at
  pub deleted_lawful : Lawful (deleted s lg v c x) (halved_lg lg lg (c - 1)) v (c - 1)
  deleted_lawful = half.lawful

  -- and stands for the set without x
  pub deleted_set : Taken s (2 ^ lg) (deleted s lg v c x) (2 ^ halved_lg lg lg (c - 1)) x
  deleted_set = record {
    gone = λ m. removed.gone refl (half.same.back x m);
    keeps = λ y m d. half.same.there y (removed.others refl y m d);
    only = λ y m. removed.no_others refl y (half.same.back y m);
  }

  -- the region keeps its length
  pub length_deleted : length (deleted s lg v c x) ≡ length s
  length_deleted = half.long ∙ length_remove s lg v x
