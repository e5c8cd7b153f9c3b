-- The judgements, one after the other, and what holds once they pass. Assumes nothing.
use mathlib.Core.Path.{◌≡◌, refl, sym, ap}
use mathlib.Core.Bool.{Bool, true, false, not, ◌&&◌}
use mathlib.Core.Logic.{⊎_elim}
use mathlib.Core.List.{List, []}
use Prim.Native.Nat.{ℕ, ◌^◌, ◌≤◌, ◌<◌}
use lib.Dec.{leb}
use borrow.Author.Tests.{le-leb, lt-leb}
use Rattle.laws.specs.Choose.{choose}
use Rattle.laws.proofs.Choices.{choose_lt, choose_ge, choose_eq, choose_ne, choose_or}
use Rattle.laws.proofs.Orders.{le_or_lt}
use lib.ListN.{length}
use Rattle.refusals.specs.Outcome.{Outcome, accepted, refused, stopped, and_then}
use Rattle.refusals.specs.Told.{told}
use Rattle.refusals.specs.declared.Refusal.{Refusal}
use Rattle.refusals.proofs.Only.{never_accepted}
use Rattle.refusals.proofs.Refusing.{both_accepted}
use Rattle.tables.specs.Slots.{empty}
use Rattle.tables.specs.Shapes.{Lawful}
use Rattle.tables.specs.Calls.{table_judged, item_judged}
use Rattle.tables.proofs.Items.{fine_item}
use Rattle.tables.proofs.Says.{judged_is}

pub then_assoc : (a b c : Outcome) → and_then a (and_then b c) ≡ and_then (and_then a b) c
then_assoc (accepted values) b c = refl
then_assoc (refused number place) b c = refl
then_assoc (stopped number place bit) b c = refl

-- a table and an item that pass
pub call_passed : (s e : List ℕ) (lg v c x : ℕ) → and_then (table_judged s e lg v c) (item_judged v x 0) ≡ accepted []
    → ((length s ≡ length e) × Lawful s lg v c) × ((x < 2 ^ v) × (x ≡ empty → ⊥))
call_passed s e lg v c x h =
    let b = both_accepted (table_judged s e lg v c) (item_judged v x 0) [] h in
    let f = fine_item v x 0 b.1 in
    (judged_is s e lg v c b.0.1, (f.small, f.full))

-- no shape, no lawful table of it
pub unsized : (why : Refusal) (b r : Bool) → told why ≡ choose (not b) (refused 15 0) (accepted []) → told why ≡ choose (not (b && r)) (refused 15 0) (accepted [])
unsized why true r e = absurd (never_accepted why [] (sym e))
unsized why false r e = e

-- ---- choices by `leb`, beside those by `ltb` and `eqb`
module _ {A : Type 0} (x y : A) where
  pub choose_le : (a b : ℕ) → a ≤ b → choose (leb a b) x y ≡ x
  choose_le a b h = ap (λ (t : Bool). choose t x y) (le-leb a b h)

  pub choose_gt : (a b : ℕ) → b < a → choose (leb a b) x y ≡ y
  choose_gt a b h = ap (λ (t : Bool). choose t x y) (lt-leb a b h)

pub not_below : (a b : ℕ) → (a < b → ⊥) → b ≤ a
not_below a b f = ⊎_elim (λ h. h) (λ h. absurd (f h)) (le_or_lt b a)

pub ruleset passings = (choose_lt, choose_ge, choose_eq, choose_ne, choose_or, choose_le, choose_gt, not_below)
