-- `compression::pair_codes::PairCodes::bits` meets its contract. Assumes nothing.
use native.Mathlib.Omega.{arith}
use Rattle.compression.proofs.PuttingCodes.{parts_total}
use Rattle.compression.proofs.pair_codes.PairCodes.bits.Goals as goal

pub returns-clause-same : goal.returns-clause-same
returns-clause-same c = let a = c.args.self in omega (arith, c.from.ensures, parts_total a.entry a.zeros a.base.count a.low)
