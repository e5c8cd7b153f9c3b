-- `unions::words::Offset::flip_below` meets its contract. Assumes nothing.
use Rattle.laws.proofs.Columns.{has_xor, has_ones}
use Rattle.laws.proofs.Shifts.{one_shl}
use Rattle.laws.specs.Columns.{has, differs}
use mathlib.Core.Path.{◌∙◌, ap}
use Prim.Native.Nat.{ℕ, ◌^◌, ◌-◌}
use Rattle.laws.proofs.Words.{word_is}
use lib.Bits.{bit_xor, xor_lt}
use lib.Pow.{pow-lt, ones_lt}
use native.Mathlib.Nat.{lt_trans}
use native.Mathlib.Omega.{arith}
use Rattle.unions.proofs.offset.Offset.flip_below.Goals as goal

pub returns : goal.returns
returns c = let w = c.args.w in
    let o = c.args.self.column in
    ap (λ (x : ℕ). bit_xor w (x - 1)) (one_shl o (omega arith))
    ∙ word_is 64 _ _ (xor_lt 64 w (2 ^ o - 1) c.ranges.w.fits (lt_trans (ones_lt o) (pow-lt {j = 64} (omega arith))))
    (λ d l. has_xor w (2 ^ o - 1) d ∙ ap (differs (has w d)) (has_ones o d))
