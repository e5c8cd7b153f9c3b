-- `compression::pair_codes::PairCodes::of` meets its contract. Assumes nothing.
use native.Mathlib.Omega.{arith}
use mathlib.Core.Path.{sym, subst}
use Prim.Native.Nat.{◌-◌, ◌/◌, ◌%◌}
use lib.Pow.{shr_le}
use Rattle.books.specs.Steps.{Shape}
use Rattle.compression.proofs.pair_codes.PairCodes.of.Goals as goal

pub invariant_of-result : goal.invariant_of-result
invariant_of-result c = let a = c.args in
    let x = c.from-pair.result % 64 - c.predict.result in
    let step = c.from-pair.result / 64 - a.before.row in
    record {
      shaped = subst Shape (sym c.from.ensures) (a.book.shaped x (omega (arith, a.book.sized)));
      few = omega (arith, shr_le step a.base.count, c.from-pair.ensures);
      lower = c.low.ensures.1;
    }
