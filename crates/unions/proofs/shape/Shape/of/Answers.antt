-- `unions::shape::Shape::of` meets its contract. Assumes nothing.
use native.Mathlib.Omega.{arith}
use Rattle.matrices.proofs.CouponsHeld.{offset_most}
use Rattle.unions.proofs.ShapeTold.{column_given}
use Rattle.unions.proofs.shape.Shape.of.Goals as goal

pub invariant_of-result : goal.invariant_of-result
invariant_of-result c = let size = c.in_ok-size.size in
    let is = column_given size.k c.args.coupons c.in_ok-offset.field-0 c.in_ok-offset.ensures in
    record { most = omega (arith, c.from-column.ensures, is.1, offset_most size.k c.args.coupons (omega (arith, size.least)) is.0) }
