-- `table_listings::walking::walk_into`: what its loop keeps true. Assumes nothing.
use Prim.Native.Nat.{◌^◌, ◌<◌}
use Rattle.tables.specs.Shapes.{Walking}
use Rattle.table_listings.proofs.walking.walk_into.Given as goal

abbrev pub invariant-loop-met : goal.invariant-loop-met
invariant-loop-met l = (l.k < 2 ^ l.shape.lg) × Walking l.slots l.initial.out l.out l.shape.lg l._met l.k l.next
