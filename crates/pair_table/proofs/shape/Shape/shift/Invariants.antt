-- `pair_table::shape::Shape::shift`: what its loop keeps true. Assumes nothing.
use Prim.Native.Nat.{◌-◌, ◌^◌}
use Rattle.pair_table.proofs.Deleting.{Shifting}
use Rattle.pair_table.proofs.shape.Shape.shift.Given as goal

abbrev pub invariant-loop-passed : goal.invariant-loop-passed
invariant-loop-passed l = Shifting l.initial.slots l.slots l.self.lg l.self.valid l.hole l.h l.p (2 ^ l.self.lg - l._passed)
