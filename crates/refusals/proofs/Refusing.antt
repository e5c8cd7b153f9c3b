-- A refusal is told as one, keeps what was lent, and ends what would follow. Assumes nothing.
use mathlib.Core.Path.{◌≡◌, refl}
use mathlib.Core.Bool.{Bool, true, false}
use mathlib.Core.List.{List}
use Prim.Native.Nat.{ℕ}
use native.Mathlib.Omega.{arith}
use Rattle.laws.specs.Choose.{choose}
use Rattle.refusals.specs.Outcome.{Outcome, accepted, refused, stopped, if_accepted, and_then}
use Rattle.refusals.specs.Told.{told}
use Rattle.refusals.specs.declared.Refusal.{Refusal}
use Rattle.refusals.proofs.Only.{never_accepted}

pub data Refuses : Outcome → Type 0 where
  by_place : {number place : ℕ} → Refuses (refused number place)
  by_bit : {number place bit : ℕ} → Refuses (stopped number place bit)

refuses_by : (r : Refusal) (o : Outcome) → o ≡ told r → Refuses o
refuses_by r (accepted values) e = absurd (never_accepted r values e)
refuses_by r (refused number place) e = by_place
refuses_by r (stopped number place bit) e = by_bit

pub refuses : (r : Refusal) → Refuses (told r)
refuses r = refuses_by r (told r) refl

kept_by {ℓ} : {A : Type ℓ} (o : Outcome) → Refuses o → (after before : A) → if_accepted o after before ≡ before
kept_by {A = A} (accepted _) never after before = elim never [ ]
kept_by (refused number place) by_place after before = refl
kept_by (stopped number place bit) by_bit after before = refl

-- what was lent stays as it was
pub kept {ℓ} : {A : Type ℓ} (r : Refusal) (after before : A) → if_accepted (told r) after before ≡ before
kept r after before = kept_by (told r) (refuses r) after before

-- ---- one judgement after another

stays_by : (first more : Outcome) → Refuses first → and_then first more ≡ first
stays_by (accepted _) more never = elim never [ ]
stays_by (refused number place) more by_place = refl
stays_by (stopped number place bit) more by_bit = refl

-- the first refusal is that of both
pub stays : (r : Refusal) (more : Outcome) → and_then (told r) more ≡ told r
stays r more = stays_by (told r) more (refuses r)

-- where both are accepted, each is
pub both_accepted : (first more : Outcome) (values : List ℕ) → and_then first more ≡ accepted values → ((own : List ℕ) × (first ≡ accepted own)) × (more ≡ accepted values)
both_accepted (accepted own) more values e = ((own, refl), e)
both_accepted (refused number place) more values e = let z : ◌≡◌ {A = ℕ} 0 1 = cc in absurd (omega arith)
both_accepted (stopped number place bit) more values e = let z : ◌≡◌ {A = ℕ} 0 1 = cc in absurd (omega arith)

-- an accepted chain did not stop at its first test
pub took : (b : Bool) (a : Outcome) (number place : ℕ) (values : List ℕ) → choose b (refused number place) a ≡ accepted values
    → (b ≡ false) × (a ≡ accepted values)
took true a number place values e = let z : ◌≡◌ {A = ℕ} 0 1 = cc in absurd (omega arith)
took false a number place values e = (refl, e)
