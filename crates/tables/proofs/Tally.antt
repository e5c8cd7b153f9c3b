-- Sums over the slots: after a store, and how often a number stands in them. Assumes nothing.
use mathlib.Core.Path.{◌≡◌, refl, sym, ◌∙◌}
use mathlib.Core.Logic.{◌⊎◌, inl, inr, ⊎_elim}
use mathlib.Core.List.{List}
use Prim.Native.Nat.{ℕ, zero, suc, ◌+◌, ◌^◌, ◌≤◌, ◌<◌}
use native.Mathlib.Omega.{arith}
use native.Mathlib.Nat.{eq-or-lt_of_le}
use native.Mathlib.Numerals.{lt_of_le_of_ne}
use lib.ListN.{length, get_or, set}
use lib.Seq.{get_or-set_same, get_or-set_other}
use lib.Dec.{eqb}
use borrow.Author.Tests.{eq-eqb, ne_eqb}
use Rattle.laws.specs.Choose.{choose}
use Rattle.laws.proofs.Orders.{same_or_not, le_or_lt}
use Rattle.tables.specs.Slots.{empty, total, items}
use Rattle.tables.specs.Shapes.{AllPlaced, Lawful}
use Rattle.tables.proofs.Laws.{held_full}

-- Sums after a store.
total_beyond : (f : ℕ → ℕ) (s : List ℕ) (q a n : ℕ) → n ≤ q → total f (set s q a) n ≡ total f s n
unfolding total
total_beyond f s q a zero l = refl
total_beyond f s q a (suc n) l = rw (total_beyond f s q a n (omega arith), get_or-set_other s q n a 0 (λ e. omega arith))

-- a store changes a sum by what goes and what comes
pub total_set : (f : ℕ → ℕ) (s : List ℕ) (q a n : ℕ) → q < n → q < length s → total f (set s q a) n + f (get_or s q 0) ≡ total f s n + f a
unfolding total
total_set f s q a zero l m = absurd (omega arith)
total_set f s q a (suc n) l m = go (λ d. total_set f s q a n d m) (same_or_not q n)
  where
    go : (q < n → total f (set s q a) n + f (get_or s q 0) ≡ total f s n + f a) → (q ≡ n) ⊎ (q ≡ n → ⊥) → total f (set s q a) n + f (get_or (set s q a) n 0) + f (get_or s q 0) ≡ total f s n + f (get_or s n 0) + f a
    go ih (inl e) =
        let i = total_beyond f s q a n (omega arith) in
        let g : get_or (set s q a) n 0 ≡ a = rw (← e) (get_or-set_same s q a 0 m) in
        rw (i, g, e) (omega arith)
    go ih (inr d) =
        let i = ih (lt_of_le_of_ne (omega arith) d) in
        rw (get_or-set_other s q n a 0 (λ e. d (sym e))) (omega arith)

-- fewer items than slots leave one empty
pub some_empty : (s : List ℕ) (n : ℕ) → items s n < n → (p : ℕ) × (p < n) × (get_or s p 0 ≡ empty)
unfolding total
some_empty s zero l = absurd (omega arith)
some_empty s (suc n) l = go (some_empty s n) (same_or_not (get_or s n 0) empty)
  where
    go : (items s n < n → (p : ℕ) × (p < n) × (get_or s p 0 ≡ empty)) → (get_or s n 0 ≡ empty) ⊎ (get_or s n 0 ≡ empty → ⊥) → (p : ℕ) × (p < suc n) × (get_or s p 0 ≡ empty)
    go ih (inl e) = (n, omega arith, e)
    go ih (inr d) = let r = ih (omega (arith, held_full (get_or s n 0) d)) in (r.0, omega arith, r.2)

-- How often y stands in a region.
pub one : ℕ → ℕ → ℕ
one y a = choose (eqb a y) 1 0

-- it stands there
pub one_same : (y a : ℕ) → a ≡ y → one y a ≡ 1
unfolding one
one_same y a e = simp (eq-eqb a y e)

-- it does not
pub one_other : (y a : ℕ) → (a ≡ y → ⊥) → one y a ≡ 0
unfolding one
one_other y a d = simp (ne_eqb a y d)

-- what stands at a slot is counted
pub tally_at : (y : ℕ) (s : List ℕ) (n p : ℕ) → p < n → get_or s p 0 ≡ y → 0 < total (one y) s n
unfolding total
tally_at y s zero p l e = absurd (omega arith)
tally_at y s (suc n) p l e = go (tally_at y s n p) (same_or_not p n)
  where
    go : (p < n → get_or s p 0 ≡ y → 0 < total (one y) s n) → (p ≡ n) ⊎ (p ≡ n → ⊥) → 0 < total (one y) s n + one y (get_or s n 0)
    go ih (inl z) = omega (arith, one_same y (get_or s n 0) (rw z at e))
    go ih (inr d) = ⊎_elim (λ z. absurd (d z)) (λ m. omega (arith, ih m e)) (eq-or-lt_of_le {n = p} {m = n} (omega arith))

-- what is counted stands at a slot
pub tally_some : (y : ℕ) (s : List ℕ) (n : ℕ) → 0 < total (one y) s n → (p : ℕ) × (p < n) × (get_or s p 0 ≡ y)
unfolding total
tally_some y s zero l = absurd (omega arith)
tally_some y s (suc n) l = go (tally_some y s n) (same_or_not (get_or s n 0) y)
  where
    go : (0 < total (one y) s n → (p : ℕ) × (p < n) × (get_or s p 0 ≡ y)) → (get_or s n 0 ≡ y) ⊎ (get_or s n 0 ≡ y → ⊥) → (p : ℕ) × (p < suc n) × (get_or s p 0 ≡ y)
    go ih (inl z) = (n, omega arith, z)
    go ih (inr d) = let r = ih (omega (arith, one_other y (get_or s n 0) d)) in (r.0, omega arith, r.2)

-- what stands at one place only is counted once
pub tally_once : (y : ℕ) (s : List ℕ) (n : ℕ) → n ≤ length s → (y ≡ empty → ⊥) → ((p r : ℕ) → p < n → r < n → get_or s p 0 ≡ y → get_or s r 0 ≡ y → p ≡ r) → total (one y) s n ≤ 1
tally_once y s n l d u = ⊎_elim (λ h. h) (λ h. absurd (twice h)) (le_or_lt (total (one y) s n) 1)
  where
    twice : 1 < total (one y) s n → ⊥
    twice h =
        let a = tally_some y s n (omega arith) in
        let k : a.0 < length s = omega arith in
        let b = tally_some y (set s a.0 empty) n (omega (arith, total_set (one y) s a.0 empty n a.1 k, one_same y (get_or s a.0 0) a.2, one_other y empty (λ z. d (sym z)))) in
        let apart : b.0 ≡ a.0 → ⊥ = λ z. d (sym b.2 ∙ rw z (get_or-set_same s a.0 empty 0 k)) in
        apart (u b.0 a.0 b.1 a.1 (sym (get_or-set_other s a.0 b.0 empty 0 apart) ∙ b.2) a.2)

-- an item that is found at its slot is counted once
pub once_placed : (o : List ℕ) (lg v : ℕ) → 2 ^ lg ≤ length o → AllPlaced o lg v (2 ^ lg) → (y : ℕ) → (y ≡ empty → ⊥) → total (one y) o (2 ^ lg) ≤ 1
once_placed o lg v room placed y d = tally_once y o (2 ^ lg) room d (λ p r pn rn pe re.
    sym (rw pe at (placed p pn (λ e. d (sym pe ∙ e))).found) ∙ (rw re at (placed r rn (λ e. d (sym re ∙ e))).found))

-- so is each item of a lawful table
pub once_lawful : (o : List ℕ) (lg v c : ℕ) → Lawful o lg v c → (y : ℕ) → (y ≡ empty → ⊥) → total (one y) o (2 ^ lg) ≤ 1
once_lawful o lg v c l = once_placed o lg v l.room l.placed
