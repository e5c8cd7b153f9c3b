-- `unions::words::Offset::with_window` meets its contract. Assumes nothing.
use Rattle.laws.proofs.Columns.{has_or, has_low, has_shl}
use Rattle.laws.specs.Columns.{has}
use mathlib.Core.Path.{◌∙◌, ap}
use mathlib.Core.Bool.{Bool, ◌||◌, ◌&&◌}
use lib.Dec.{leb}
use Prim.Native.Nat.{ℕ, ◌-◌, ◌*◌, ◌%◌, ◌^◌}
use Rattle.laws.proofs.Words.{word_is}
use lib.Bits.{or_lt}
use lib.Pow.{pow_pos}
use native.Mathlib.Nat.{mod-lt}
use Rattle.unions.proofs.offset.Offset.with_window.Goals as goal

pub returns : goal.returns
returns c = let w = c.args.w in
    let x = c.from.result * 2 ^ c.args.self.column in
    word_is 64 _ _ (or_lt 64 w (x % 2 ^ 64) c.ranges.w.fits (mod-lt x (pow_pos 64)))
    (λ d l. has_or w (x % 2 ^ 64) d ∙ ap (λ (t : Bool). has w d || t) (has_low x 64 d l ∙ has_shl c.from.result c.args.self.column d ∙ ap (λ (b : ℕ). leb c.args.self.column d && has b (d - c.args.self.column)) c.from.ensures))
