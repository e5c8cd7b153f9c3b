-- A test that says whether a fact holds is the test that the definition makes. Assumes nothing.
use mathlib.Core.Path.{◌≡◌, sym}
use mathlib.Core.Bool.{Bool, true, false}
use Rattle.laws.proofs.Truths.{never_true}
use Rattle.books.specs.Steps.{Decides}

pub decides_is : (P : Type 0) (r b : Bool) → Decides P r → (P → b ≡ true) → (b ≡ true → P) → r ≡ b
decides_is P true b p to from = sym (to p)
decides_is P false b p to from = sym (never_true b (λ e. p (from e)))
