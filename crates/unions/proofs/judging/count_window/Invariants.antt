-- `unions::judging::count_window`: what its loops keep true, and why they end. Assumes nothing.
use mathlib.Core.Path.{◌≡◌}
use Prim.Native.Nat.{◌*◌, ◌≤◌}
use lib.Count.{ones}
use lib.ListN.{get_or}
use Rattle.laws.specs.Below.{sum_below}
use Rattle.unions.proofs.judging.count_window.Given as goal

abbrev pub invariant-loop-block : goal.invariant-loop-block
invariant-loop-block l = (l.sum ≡ sum_below (8 * l.block) (λ r. ones (get_or l.window r 0))) × (l.sum ≤ 64 * l.block)
