-- `unions::words::with_column` meets its contract. Assumes nothing.
use Rattle.laws.proofs.Columns.{has_or, has_one}
use Rattle.laws.proofs.Shifts.{one_shl}
use Rattle.laws.specs.Columns.{has}
use mathlib.Core.Path.{◌∙◌, ap}
use mathlib.Core.Bool.{Bool, ◌||◌}
use Prim.Native.Nat.{ℕ, ◌^◌, ◌%◌}
use Rattle.laws.proofs.Words.{word_is}
use native.Mathlib.Omega.{arith}
use lib.Bits.{bit_or, or_lt}
use lib.Pow.{pow-lt}
use Rattle.unions.proofs.words.with_column.Goals as goal

pub returns : goal.returns
returns c = let w = c.args.w in
    let j = c.args.pair % 64 in
    ap (λ (x : ℕ). bit_or w x) (one_shl j (omega arith))
    ∙ word_is 64 _ _ (or_lt 64 w (2 ^ j) c.ranges.w.fits (pow-lt {j = 64} (omega arith)))
    (λ d l. has_or w (2 ^ j) d ∙ ap (λ (t : Bool). has w d || t) (has_one j d))
