-- `pair_table::region::Region::tail_row`: what its loop keeps true. Assumes nothing.
use mathlib.Core.Path.{◌≡◌}
use Prim.Native.Nat.{ℕ, ◌+◌, ◌^◌, ◌≤◌, ◌<◌}
use lib.ListN.{get_or}
use Rattle.tables.specs.Slots.{empty}
use Rattle.pair_table.proofs.region.Region.tail_row.Given as goal

abbrev pub invariant-loop-i : goal.invariant-loop-i
invariant-loop-i l = let n = 2 ^ l.self.shape.lg in
    (l.len + l.i ≡ n) × ((k : ℕ) → l.i ≤ k → k < n → (get_or l.slots k 0 ≡ empty → ⊥) × (get_or l.slots k 0 ≤ l.top))
