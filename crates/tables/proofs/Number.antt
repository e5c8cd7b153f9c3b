-- The items that a lawful table counts are the numbers that its set holds. Assumes nothing.
use mathlib.Core.Path.{◌≡◌, refl, sym, ap, ap₂, ◌∙◌}
use mathlib.Core.Bool.{Bool, true, false, not, ◌&&◌}
use mathlib.Core.Logic.{◌⊎◌, inl, inr, ⊎_elim}
use mathlib.Core.List.{List}
use Prim.Native.Nat.{ℕ, zero, suc, ◌+◌, ◌^◌, ◌<◌}
use native.Mathlib.Omega.{arith}
use lib.ListN.{get_or}
use lib.Dec.{eqb}
use borrow.Author.Tests.{eq-eqb, ne_eqb}
use Rattle.laws.specs.Choose.{choose}
use Rattle.laws.specs.Below.{one as told, sum_below}
use Rattle.laws.proofs.Sums.{sum_zero, sum_add, sum_same, single}
use Rattle.laws.proofs.Orders.{same_or_not}
use Rattle.tables.specs.Slots.{empty, total, held, holds}
use Rattle.tables.specs.Shapes.{Lawful}
use Rattle.tables.proofs.Laws.{held_empty, held_full}
use Rattle.tables.proofs.Tally.{one, one_same, one_other, tally_at, tally_some, once_lawful}
use Rattle.tables.proofs.Bridges.{holds_at, not_holds}

-- 1 if the item y stands in a slot that holds a
pub hit : ℕ → ℕ → ℕ
hit y a = choose (eqb y empty) 0 (one y a)

-- the empty slot's number is no item
pub hit_never : (y a : ℕ) → y ≡ empty → hit y a ≡ 0
unfolding hit
hit_never y a e = simp (eq-eqb y empty e)

-- any other counts where it stands
pub hit_one : (y a : ℕ) → (y ≡ empty → ⊥) → hit y a ≡ one y a
unfolding hit
hit_one y a d = simp (ne_eqb y empty d)

total_same : (f g : ℕ → ℕ) (s : List ℕ) (n : ℕ) → ((p : ℕ) → p < n → f (get_or s p 0) ≡ g (get_or s p 0)) → total f s n ≡ total g s n
unfolding total
total_same f g s zero h = refl
total_same f g s (suc n) h = ap₂ ◌+◌ (total_same f g s n (λ p l. h p (omega arith))) (h n (omega arith))

total_none : (s : List ℕ) (n : ℕ) → total (λ a. 0) s n ≡ 0
unfolding total
total_none s zero = refl
total_none s (suc n) = omega (arith, total_none s n)

-- summed over numbers and over slots in one order or the other
swapped : (f : ℕ → ℕ → ℕ) (s : List ℕ) (m n : ℕ) → sum_below m (λ y. total (f y) s n) ≡ total (λ a. sum_below m (λ y. f y a)) s n
unfolding total
swapped f s m zero = sum_zero m
swapped f s m (suc n) = sum_add m (λ y. total (f y) s n) (λ y. f y (get_or s n 0)) ∙ ap (λ (k : ℕ). k + sum_below m (λ y. f y (get_or s n 0))) (swapped f s m n)

-- a slot is hit once if it holds an item, which is below m
hit_once : (m a : ℕ) → ((a ≡ empty → ⊥) → a < m) → sum_below m (λ y. hit y a) ≡ held a
hit_once m a small = ⊎_elim
    (λ (e : a ≡ empty). sum_same m (λ y. hit y a) (λ y. 0) (λ y l. nothing e y (same_or_not y empty)) ∙ sum_zero m ∙ sym (held_empty a e))
    (λ d. sum_same m (λ y. hit y a) (λ y. told (eqb y a)) (λ y l. something d y (same_or_not y a)) ∙ single m a (small d) ∙ sym (held_full a d))
    (same_or_not a empty)
  where
    nothing : a ≡ empty → (y : ℕ) → (y ≡ empty) ⊎ (y ≡ empty → ⊥) → hit y a ≡ 0
    nothing e y (inl z) = hit_never y a z
    nothing e y (inr z) = hit_one y a z ∙ one_other y a (λ w. z (sym w ∙ e))

    missed : (y : ℕ) → (y ≡ a → ⊥) → (y ≡ empty) ⊎ (y ≡ empty → ⊥) → hit y a ≡ 0
    missed y d (inl z) = hit_never y a z
    missed y d (inr z) = hit_one y a z ∙ one_other y a (λ w. d (sym w))

    something : (a ≡ empty → ⊥) → (y : ℕ) → (y ≡ a) ⊎ (y ≡ a → ⊥) → hit y a ≡ told (eqb y a)
    something d y (inl z) = hit_one y a (λ w. d (sym z ∙ w)) ∙ one_same y a (sym z) ∙ sym (ap told (eq-eqb y a z))
    something d y (inr z) = missed y z (same_or_not y empty) ∙ sym (ap told (ne_eqb y a z))

-- the slots of a lawful table hold y once if it is in the set, and otherwise never
pub set_total : (s : List ℕ) (lg v c : ℕ) → Lawful s lg v c → (y : ℕ) → told (not (eqb y empty) && holds s (2 ^ lg) y) ≡ total (hit y) s (2 ^ lg)
set_total s lg v c l y = at (same_or_not y empty)
  where
    none : (y ≡ empty → ⊥) → holds s (2 ^ lg) y ≡ false → (total (one y) s (2 ^ lg) ≡ 0) ⊎ (total (one y) s (2 ^ lg) ≡ 0 → ⊥) → 0 ≡ total (one y) s (2 ^ lg)
    none d e (inl z) = sym z
    none d e (inr z) = let r = tally_some y s (2 ^ lg) (omega arith) in absurd (not_holds s (2 ^ lg) y e (r.0, r.1, r.2, d))

    often : (y ≡ empty → ⊥) → (b : Bool) → holds s (2 ^ lg) y ≡ b → told b ≡ total (one y) s (2 ^ lg)
    often d true e = let r = holds_at s (2 ^ lg) y e in omega (arith, tally_at y s (2 ^ lg) r.0 r.1 r.2, once_lawful s lg v c l y d)
    often d false e = none d e (same_or_not (total (one y) s (2 ^ lg)) 0)

    at : (y ≡ empty) ⊎ (y ≡ empty → ⊥) → told (not (eqb y empty) && holds s (2 ^ lg) y) ≡ total (hit y) s (2 ^ lg)
    at (inl e) = rw (eq-eqb y empty e) (sym (total_same (hit y) (λ a. 0) s (2 ^ lg) (λ p h. hit_never y (get_or s p 0) e) ∙ total_none s (2 ^ lg)))
    at (inr d) = rw (ne_eqb y empty d) (often d (holds s (2 ^ lg) y) refl ∙ sym (total_same (hit y) (one y) s (2 ^ lg) (λ p h. hit_one y (get_or s p 0) d)))

-- the set of a lawful table has as many numbers as the table counts
pub set_number : (s : List ℕ) (lg v c : ℕ) → Lawful s lg v c → sum_below (2 ^ v) (λ y. told (not (eqb y empty) && holds s (2 ^ lg) y)) ≡ c
set_number s lg v c l =
    sum_same (2 ^ v) (λ y. told (not (eqb y empty) && holds s (2 ^ lg) y)) (λ y. total (hit y) s (2 ^ lg)) (λ y h. set_total s lg v c l y)
    ∙ swapped hit s (2 ^ v) (2 ^ lg)
    ∙ total_same (λ a. sum_below (2 ^ v) (λ y. hit y a)) held s (2 ^ lg) (λ p h. hit_once (2 ^ v) (get_or s p 0) (λ d. (l.placed p h d).small))
    ∙ l.count
