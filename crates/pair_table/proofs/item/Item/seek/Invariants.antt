-- `pair_table::item::Item::seek`: what its loop keeps true. Assumes nothing.
use mathlib.Core.Path.{◌≡◌}
use Prim.Native.Nat.{◌-◌, ◌^◌, ◌<◌}
use Rattle.tables.specs.Slots.{probe}
use Rattle.pair_table.proofs.item.Item.seek.Given as goal

abbrev pub invariant-loop-passed : goal.invariant-loop-passed
invariant-loop-passed l = let n = 2 ^ l.self.shape.lg in
    (l.p < n) × (probe l.slots n l.self.value n l.from ≡ probe l.slots n l.self.value (n - l._passed) l.p)
