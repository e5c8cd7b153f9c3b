-- `unions::offset::Offset::count_below`: what its loops keep true, and why they end. Assumes nothing.
use mathlib.Core.Path.{◌≡◌}
use Prim.Native.Nat.{◌%◌, ◌≤◌}
use lib.ListN.{get_or}
use lib.Dec.{ltb}
use Rattle.laws.specs.Below.{count_below}
use Rattle.unions.proofs.offset.Offset.count_below.Given as goal

abbrev pub invariant-loop-pair : goal.invariant-loop-pair
invariant-loop-pair l = (l.sum ≡ count_below l.pair-index (λ j. ltb (get_or l.pairs j 0 % 64) l.self.column)) × (l.sum ≤ l.pair-index)
