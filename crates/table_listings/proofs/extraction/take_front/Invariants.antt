-- `table_listings::extraction::take_front`: what its loop keeps true. Assumes nothing.
use Prim.Native.Nat.{◌^◌, ◌≤◌}
use Rattle.tables.proofs.Extract.{Part}
use Rattle.table_listings.proofs.extraction.take_front.Given as goal

abbrev pub invariant-loop-slot : goal.invariant-loop-slot
invariant-loop-slot l = (l.aft ≤ l.table.items) × Part l.slots l.initial.out l.out (2 ^ l.table.shape.lg) l.table.shape.valid l.table.items l.slot l.fore l.aft
