-- The items that a table takes: judged one, and judged in a list. Assumes nothing.
use mathlib.Core.Path.{◌≡◌, refl, sym, ◌∙◌}
use mathlib.Core.Logic.{⊎_elim}
use mathlib.Core.List.{List, [], ◌∷◌}
use Prim.Native.Nat.{ℕ, zero, suc, ◌^◌, ◌≤◌, ◌<◌}
use native.Mathlib.Omega.{arith}
use lib.ListN.{length, get_or, drop, drop_of_length-le}
use lib.Seq.{drop-cons}
use borrow.Author.Tests.{eq-eqb, ne_eqb, le-leb, lt-leb}
use Rattle.laws.proofs.Orders.{le_or_lt}
use Rattle.refusals.proofs.Refusing.{both_accepted}
use Rattle.refusals.specs.Outcome.{accepted, refused, and_then}
use Rattle.tables.specs.Slots.{empty}
use Rattle.tables.specs.Calls.{item_judged, items_judged}

-- an item that a table of v valid bits takes
pub record Fine (v x : ℕ) : Type 0 where
  pub small : x < 2 ^ v
  pub full : x ≡ empty → ⊥

-- an accepted outcome is no refusal
pub never : {values : List ℕ} {number place : ℕ} → refused number place ≡ accepted values → ⊥
never e = let z : ◌≡◌ {A = ℕ} 0 1 = cc in omega arith

-- what a table takes is accepted
pub item_fine : (v x place : ℕ) → Fine v x → item_judged v x place ≡ accepted []
unfolding item_judged
item_fine v x place w = simp (ne_eqb x empty w.full, lt-leb (2 ^ v) x w.small)

-- the empty slot's number is refused by 10
pub item_empty : (v x place : ℕ) → x ≡ empty → item_judged v x place ≡ refused 10 place
unfolding item_judged
item_empty v x place e = simp (eq-eqb x empty e)

-- what is not below 2^v is refused by 12
pub item_large : (v x place : ℕ) → (x ≡ empty → ⊥) → 2 ^ v ≤ x → item_judged v x place ≡ refused 12 place
unfolding item_judged
item_large v x place d h = simp (ne_eqb x empty d, le-leb (2 ^ v) x h)

-- what is accepted is fine
pub fine_item : (v x place : ℕ) {values : List ℕ} → item_judged v x place ≡ accepted values → Fine v x
fine_item v x place e =
    let d : x ≡ empty → ⊥ = λ z. never (sym (item_empty v x place z) ∙ e) in
    record { full = d; small = ⊎_elim (λ (h : 2 ^ v ≤ x). absurd (never (sym (item_large v x place d h) ∙ e))) (λ (h : x < 2 ^ v). h) (le_or_lt (2 ^ v) x) }

-- a list, judged item by item from index i on
pub items_turn : (v i : ℕ) (list : List ℕ) → i < length list
    → items_judged v i (drop i list) ≡ and_then (item_judged v (get_or list i 0) i) (items_judged v (suc i) (drop (suc i) list))
unfolding items_judged
items_turn v i list h = rw (drop-cons list i 0 h)

-- no item is left
pub items_end : (v i : ℕ) (list : List ℕ) → length list ≤ i → items_judged v i (drop i list) ≡ accepted []
unfolding items_judged
items_end v i list h = rw (drop_of_length-le list h)

-- a list that is accepted is fine, item by item
pub items_fine : (v i : ℕ) (list : List ℕ) {values : List ℕ} → items_judged v i list ≡ accepted values → (k : ℕ) → k < length list → Fine v (get_or list k 0)
unfolding items_judged
items_fine v i [] {values} e k h = absurd (omega arith)
items_fine v i (x ∷ more) {values} e zero h = fine_item v x i (both_accepted (item_judged v x i) (items_judged v (suc i) more) values e).0.1
items_fine v i (x ∷ more) {values} e (suc k) h = items_fine v (suc i) more (both_accepted (item_judged v x i) (items_judged v (suc i) more) values e).1 k (omega arith)

-- and the other way round
pub fine_items : (v i : ℕ) (list : List ℕ) → ((k : ℕ) → k < length list → Fine v (get_or list k 0)) → items_judged v i list ≡ accepted []
unfolding items_judged
fine_items v i [] f = refl
fine_items v i (x ∷ more) f = rw (item_fine v x i (f 0 (omega arith))) (fine_items v (suc i) more (λ k h. f (suc k) (omega arith)))
