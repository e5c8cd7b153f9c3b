-- `pair_table::shape::Shape::lawful` meets its contract. Assumes nothing.
use native.Mathlib.Omega.{arith}
use Rattle.laws.proofs.Shifts.{one_shl}
use Rattle.pair_table.proofs.shape.Shape.lawful.Goals as goal

pub invariant_of-result : goal.invariant_of-result
invariant_of-result c = record {
  lg_least = c.requires.0;
  lg_most = c.requires.1;
  bits_least = c.requires.2;
  bits_most = c.requires.3;
  power = one_shl c.args.lg (omega arith);
}
