-- Laws of one byte more inside a line. Assumes nothing.
use mathlib.Core.Path.{◌≡◌, sym, ap, ◌∙◌}
use mathlib.Core.Bool.{Bool, false, not, ◌&&◌}
use Prim.Native.Nat.{ℕ, ◌≤◌}
use lib.Dec.{leb}
use borrow.Author.Tests.{leb-true, not-false}
use Rattle.laws.proofs.Truths.{and_left}

-- what a call ensures of its result, once a match says which result that is
pub as_told : {A B : Type 0} (f : A → B) {r x y : A} → r ≡ x → r ≡ y → f y ≡ f x
as_told f p q = ap f (sym q ∙ p)

pub a_digit : (r : Bool) (byte : ℕ) → r ≡ (leb 48 byte && leb byte 57) → not r ≡ false → 48 ≤ byte
a_digit r byte e t = leb-true 48 byte (and_left _ (leb byte 57) (sym e ∙ not-false r t))
