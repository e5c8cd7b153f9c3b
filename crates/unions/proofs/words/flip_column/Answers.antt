-- `unions::words::flip_column` meets its contract. Assumes nothing.
use mathlib.Core.Path.{◌∙◌, ap}
use Prim.Native.Nat.{◌^◌, ◌%◌}
use native.Mathlib.Omega.{arith}
use lib.Bits.{bit_xor, xor_lt}
use lib.Pow.{pow-lt}
use Rattle.laws.specs.Columns.{has, differs}
use Rattle.laws.proofs.Columns.{has_xor, has_one}
use Rattle.laws.proofs.Shifts.{one_shl}
use Rattle.laws.proofs.Words.{word_is}
use Rattle.unions.proofs.words.flip_column.Goals as goal

pub returns : goal.returns
returns c = let w = c.args.w in
    let j = c.args.pair % 64 in
    ap (bit_xor w) (one_shl j (omega arith))
    ∙ word_is 64 _ _ (xor_lt 64 w (2 ^ j) c.ranges.w.fits (pow-lt {j = 64} (omega arith)))
    (λ d l. has_xor w (2 ^ j) d ∙ ap (differs (has w d)) (has_one j d))
