-- `unions::rows::Rows::lower` meets its contract. Assumes nothing.
use native.Mathlib.Omega.{arith}
use Rattle.unions.proofs.ShapeTold.{size_least}
use Rattle.unions.proofs.rows.Rows.lower.Goals as goal

pub fold-requires : goal.fold-requires
fold-requires c = size_least c.args.from c.args.self.now.size (omega (arith, c.if-from-self.true))
