-- The items in slot order: each item of a lawful table once, and nothing else. Assumes nothing.
use mathlib.Core.Path.{◌≡◌, refl, sym, ◌∙◌}
use mathlib.Core.Bool.{Bool, true, false, not, ◌&&◌}
use mathlib.Core.Logic.{◌⊎◌, inl, inr, ⊎_elim}
use mathlib.Core.List.{List}
use Prim.Native.Nat.{ℕ, ◌^◌}
use lib.ListN.{get_or, take}
use lib.Dec.{eqb}
use borrow.Author.Tests.{eq-eqb, ne_eqb}
use Rattle.laws.specs.Choose.{choose}
use Rattle.laws.specs.Below.{one as told}
use Rattle.laws.proofs.Sums.{sum_same}
use Rattle.laws.proofs.Orders.{same_or_not}
use Rattle.tables.specs.Slots.{empty, holds}
use Rattle.tables.specs.Listings.{keep, is_item, extraction}
use Rattle.tables.specs.Shapes.{Lawful}
use Rattle.tables.proofs.Tally.{one, one_same, one_other}
use Rattle.tables.proofs.Number.{hit, hit_never, hit_one, set_total}
use Rattle.tables.proofs.Kept.{times_in, sum_keep, sum_take, total_sum}
use Rattle.tables.proofs.Extraction.{extraction_times}

-- a slot that holds a counts for y if it is an item and is y
counts : (a y : ℕ) → choose (is_item a) (choose (eqb a y) 1 0) 0 ≡ hit y a
counts a y = ⊎_elim
    (λ (e : y ≡ empty). here e (same_or_not a empty) ∙ sym (hit_never y a e))
    (λ d. away d (same_or_not a y) ∙ sym (hit_one y a d))
    (same_or_not y empty)
  where
    none : (b : Bool) → choose {A = ℕ} b 0 0 ≡ 0
    none true = refl
    none false = refl

    here : y ≡ empty → (a ≡ empty) ⊎ (a ≡ empty → ⊥) → choose {A = ℕ} (is_item a) (choose (eqb a y) 1 0) 0 ≡ 0
    here e (inl z) = rw (eq-eqb a empty z)
    here e (inr z) = rw (ne_eqb a y (λ w. z (w ∙ e))) (none (is_item a))

    away : (y ≡ empty → ⊥) → (a ≡ y) ⊎ (a ≡ y → ⊥) → choose (is_item a) (choose (eqb a y) 1 0) 0 ≡ one y a
    away d (inl z) = rw (ne_eqb a empty (λ w. d (sym z ∙ w)), eq-eqb a y z) (sym (one_same y a z))
    away d (inr z) = rw (ne_eqb a y z) (none (is_item a) ∙ sym (one_other y a z))

-- y is listed once if the table holds it, and otherwise never
pub kept_once : (s : List ℕ) (lg v c : ℕ) → Lawful s lg v c → (y : ℕ) → times_in y (keep is_item (take (2 ^ lg) s)) ≡ told (not (eqb y empty) && holds s (2 ^ lg) y)
kept_once s lg v c l y =
    sum_keep (λ x. choose (eqb x y) 1 0) is_item (take (2 ^ lg) s)
    ∙ sum_take (λ x. choose (is_item x) (choose (eqb x y) 1 0) 0) s (2 ^ lg) l.room
    ∙ sum_same (2 ^ lg) (λ p. choose (is_item (get_or s p 0)) (choose (eqb (get_or s p 0) y) 1 0) 0) (λ p. hit y (get_or s p 0)) (λ p h. counts (get_or s p 0) y)
    ∙ sym (total_sum (hit y) s (2 ^ lg))
    ∙ sym (set_total s lg v c l y)

-- The extraction lists each item of the table once, and nothing else.
pub extraction_once : (s : List ℕ) (lg v c : ℕ) → Lawful s lg v c → (y : ℕ) → times_in y (extraction (take (2 ^ lg) s) v) ≡ told (not (eqb y empty) && holds s (2 ^ lg) y)
extraction_once s lg v c l y = extraction_times (take (2 ^ lg) s) v y ∙ kept_once s lg v c l y
