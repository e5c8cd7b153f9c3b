-- `pair_table::region::Region::is_empty_beyond`: what its loop keeps true. Assumes nothing.
use Prim.Native.Nat.{◌^◌}
use Rattle.tables.specs.Shapes.{EmptyFrom}
use Rattle.pair_table.proofs.region.Region.is_empty_beyond.Given as goal

abbrev pub invariant-loop-i : goal.invariant-loop-i
invariant-loop-i l = EmptyFrom l.slots (2 ^ l.self.shape.lg) l.i
