-- `pair_table::region::Region::is_all_placed`: what its loop keeps true. Assumes nothing.
use mathlib.Core.Path.{◌≡◌}
use Prim.Native.Nat.{◌+◌, ◌^◌, ◌≤◌, ◌<◌}
use Rattle.tables.specs.Shapes.{AllPlaced, RunUp}
use Rattle.pair_table.proofs.region.Region.is_all_placed.Given as goal

abbrev pub invariant-loop-p : goal.invariant-loop-p
invariant-loop-p l = let n = 2 ^ l.self.shape.lg in
    (l.row.end ≡ l.p) × (l.row.len ≤ n + l.p) × AllPlaced l.slots l.self.shape.lg l.self.shape.valid l.p × (l.p < n → RunUp l.slots n l.p l.row.len l.row.top)
