-- `unions::rows::Rows::merge_rows`: what its loops keep true, and why they end. Assumes nothing.
use mathlib.Core.Path.{◌≡◌}
use Prim.Native.Nat.{◌-◌, ◌≤◌}
use lib.ListN.{length}
use Rattle.matrices.specs.Matrix.{matrix_of}
use Rattle.matrices.specs.Shapes.{merged}
use Rattle.unions.specs.Steps.{EarlyFrom, early_set}
use Rattle.unions.specs.Rows.{LeftAs}
use Rattle.unions.proofs.rows.Rows.merge_rows.Given as goal

abbrev pub invariant-loop-r : goal.invariant-loop-r
invariant-loop-r l = (l.r ≤ length l.window) × (length l.self.words.now ≡ length l.initial.self.words.now) × EarlyFrom l.offset.column l.source.pairs.now l.start l.r
    × LeftAs l.initial.self l.self l.initial.self.size (matrix_of (length l.initial.self.words.now) (merged l.initial.self.size.k l.r l.initial.self.words.now (early_set l.offset.column l.window l.source.pairs.now)))

abbrev pub decreases-loop-r : goal.decreases-loop-r
decreases-loop-r l = length l.window - l.r
