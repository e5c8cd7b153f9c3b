-- `unions::words::Offset::clear_window` meets its contract. Assumes nothing.
use Rattle.laws.proofs.Columns.{has_and, has_not, has_low}
use Rattle.matrices.proofs.Windows.{has_window}
use Rattle.laws.specs.Columns.{has}
use mathlib.Core.Path.{◌∙◌, ap}
use mathlib.Core.Bool.{Bool, not, ◌&&◌}
use Prim.Native.Nat.{◌*◌, ◌%◌, ◌^◌, ◌-◌}
use native.Mathlib.Nat.{mod-lt}
use lib.Pow.{pow_pos}
use Rattle.laws.proofs.Words.{word_is}
use lib.Bits.{and_lt}
use lib.Pow.{ones_sub-lt}
use Rattle.unions.proofs.offset.Offset.clear_window.Goals as goal

pub returns : goal.returns
returns c = let w = c.args.w in
    let m = 255 * 2 ^ c.args.self.column in
    let n = (2 ^ 64 - 1) - m % 2 ^ 64 in
    word_is 64 _ _ (and_lt 64 w n c.ranges.w.fits (ones_sub-lt 64 (m % 2 ^ 64)))
    (λ d l.
    has_and w n d
    ∙ ap (λ (t : Bool). has w d && t) (has_not 64 (m % 2 ^ 64) d (mod-lt m (pow_pos 64)) l ∙ ap not (has_low m 64 d l ∙ has_window c.args.self.column d)))
