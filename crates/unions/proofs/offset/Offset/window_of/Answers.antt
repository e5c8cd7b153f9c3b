-- `unions::words::Offset::window_of` meets its contract. Assumes nothing.
use Rattle.laws.proofs.Columns.{has_shr}
use mathlib.Core.Path.{◌∙◌}
use Prim.Native.Nat.{◌^◌}
use Rattle.laws.proofs.Words.{word_is}
use lib.Pow.{pow_pos}
use native.Mathlib.Nat.{mod-lt}
use Rattle.laws.proofs.Columns.{has_low}
use Prim.Native.Nat.{◌/◌}
use Rattle.unions.proofs.offset.Offset.window_of.Goals as goal

pub returns : goal.returns
returns c = let x = c.args.w / 2 ^ c.args.self.column in
    word_is 8 _ _ (mod-lt x (pow_pos 8)) (λ d l. has_low x 8 d l ∙ has_shr c.args.w c.args.self.column d)
