-- `pair_table::region::Region::count`: what its loop keeps true. Assumes nothing.
use mathlib.Core.Path.{◌≡◌}
use Prim.Native.Nat.{◌≤◌}
use Rattle.tables.specs.Slots.{items}
use Rattle.pair_table.proofs.region.Region.count.Given as goal

abbrev pub invariant-loop-i : goal.invariant-loop-i
invariant-loop-i l = (l.count ≡ items l.slots l.i) × (l.count ≤ l.i)
