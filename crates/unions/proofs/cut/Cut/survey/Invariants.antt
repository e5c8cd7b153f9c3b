-- `unions::cut::Cut::survey`: what its loops keep true, and why they end. Assumes nothing.
use mathlib.Core.Path.{◌≡◌}
use Prim.Native.Nat.{◌-◌, ◌%◌, ◌≤◌}
use lib.ListN.{length}
use Rattle.matrices.specs.Parts.{windowed}
use Rattle.matrices.proofs.SplitTurn.{listed_to}
use Rattle.unions.proofs.cut.Cut.survey.Given as goal

abbrev pub invariant-loop-from : goal.invariant-loop-from
invariant-loop-from l = (l.from ≤ length l.self.words.now) × (l.from % 8 ≡ 0) × (length l.found ≡ 64) × (l.count ≡ length (listed_to (windowed l.self.shape.flavor) l.self.shape.offset.column l.self.words.now l.from))

abbrev pub decreases-loop-from : goal.decreases-loop-from
decreases-loop-from l = length l.self.words.now - l.from
