-- `unions::filling::join_rows`: what its loops keep true, and why they end. Assumes nothing.
use mathlib.Core.Path.{◌≡◌}
use lib.ListN.{length}
use mathlib.Core.List.{[]}
use Rattle.matrices.specs.Matrix.{matrix_of}
use Rattle.matrices.specs.Source.{expanded}
use Rattle.matrices.proofs.Rewriting.{rewritten}
use Rattle.unions.proofs.filling.join_rows.Given as goal

abbrev pub invariant-loop-r : goal.invariant-loop-r
invariant-loop-r l = (length l.matrix ≡ length l.initial.matrix)
    × (l.matrix ≡ rewritten l.initial.matrix (matrix_of (length l.initial.matrix) (expanded l.offset.column l.window [])) l.r)
