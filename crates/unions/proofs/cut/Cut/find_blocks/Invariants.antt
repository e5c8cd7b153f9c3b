-- `unions::cut::Cut::find_blocks`: what its loops keep true, and why they end. Assumes nothing.
use mathlib.Core.Path.{◌≡◌}
use Prim.Native.Nat.{◌-◌, ◌%◌, ◌≤◌}
use lib.ListN.{length}
use Rattle.matrices.specs.Parts.{windowed}
use Rattle.unions.specs.Steps.{Found}
use Rattle.unions.proofs.cut.Cut.find_blocks.Given as goal

abbrev pub invariant-loop-r : goal.invariant-loop-r
invariant-loop-r l = (l.from ≤ l.r) × (l.r ≤ l.to) × (l.r % 8 ≡ 0) × (length l.found ≡ 64) × Found (windowed l.self.shape.flavor) l.self.shape.offset.column l.self.words.now l.from l.r l.found l.n

abbrev pub decreases-loop-r : goal.decreases-loop-r
decreases-loop-r l = l.to - l.r
