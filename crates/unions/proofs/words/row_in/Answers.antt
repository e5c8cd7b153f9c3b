-- `unions::words::row_in` meets its contract. Assumes nothing.
use mathlib.Core.Path.{◌≡◌, sym, subst}
use Prim.Native.Nat.{ℕ, ◌%◌, ◌<◌, ◌-◌}
use native.Mathlib.Nat.{mod-lt}
use native.Mathlib.Omega.{arith}
use lib.Bits.{bit_and, and_mask}
use Rattle.unions.proofs.words.row_in.Goals as goal

pub returns : goal.returns
returns c = let row = c.args.row in
    let size = c.args.size in
    let e : bit_and row (size.k - 1) ≡ row % size.k = subst (λ (k : ℕ). bit_and row (k - 1) ≡ row % k) (sym size.power) (and_mask row size.lg) in
    (e, subst (λ (x : ℕ). x < size.k) (sym e) (mod-lt row (omega (arith, size.least))))
