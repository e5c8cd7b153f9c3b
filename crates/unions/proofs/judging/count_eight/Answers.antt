-- `unions::judging::count_eight` meets its contract. Assumes nothing.
use mathlib.Core.Path.{◌∙◌, ap}
use native.Mathlib.Omega.{arith}
use lib.Count.{ones, ones-le}
use Rattle.unions.proofs.EightBytes.{ones_of_eight}
use Rattle.unions.proofs.judging.count_eight.Goals as goal

pub returns : goal.returns
returns c = let w = c.args.window.now in (
  c.from.ensures ∙ ap ones c.from_le_bytes-word.ensures ∙ ones_of_eight w (λ i. (c.type_inv.window i).fits) c.args.i,
  omega (arith, c.from.ensures, ones-le 64 c.from_le_bytes-word.result (omega arith)),
)
