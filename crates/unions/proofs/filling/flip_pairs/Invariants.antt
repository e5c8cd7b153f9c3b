-- `unions::filling::flip_pairs`: what its loops keep true, and why they end. Assumes nothing.
use mathlib.Core.Path.{◌≡◌}
use lib.ListN.{length}
use Rattle.matrices.specs.Matrix.{matrix_of}
use Rattle.unions.proofs.Flips.{flipped_to}
use Rattle.unions.proofs.filling.flip_pairs.Given as goal

abbrev pub invariant-loop-pair : goal.invariant-loop-pair
invariant-loop-pair l = (length l.matrix ≡ length l.initial.matrix) × (l.matrix ≡ matrix_of (length l.initial.matrix) (flipped_to l.initial.matrix l.source.pairs.now l.pair-index))
