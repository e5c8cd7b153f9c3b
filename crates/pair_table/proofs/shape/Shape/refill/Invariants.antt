-- `pair_table::shape::Shape::refill`: what its loop keeps true. Assumes nothing.
use mathlib.Core.Path.{◌≡◌}
use lib.ListN.{length}
use Rattle.tables.specs.Changes.{fill}
use Rattle.pair_table.proofs.shape.Shape.refill.Given as goal

abbrev pub invariant-loop-x : goal.invariant-loop-x
invariant-loop-x l = (length l.to ≡ length l.initial.to) × (l.to ≡ fill l.from l.x-index l.initial.to l.self.lg l.self.valid)
