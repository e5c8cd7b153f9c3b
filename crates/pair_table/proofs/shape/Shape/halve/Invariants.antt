-- `pair_table::shape::Shape::halve`: what its loop keeps true. Assumes nothing.
use mathlib.Core.Path.{◌≡◌}
use Rattle.pair_table.proofs.Deleting.{Halving}
use Rattle.pair_table.proofs.shape.Shape.halve.Given as goal

abbrev pub invariant-loop-lg : goal.invariant-loop-lg
invariant-loop-lg l = (l.shape.lg ≡ l.lg) × (l.shape.valid ≡ l.fn.self.valid) × Halving l.initial.region l.initial.spare l.region l.spare l.fn.self.lg l.fn.self.valid l.items l.shape.lg
