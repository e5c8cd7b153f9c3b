-- `unions::counting::Matrix::coupons`: what its loops keep true, and why they end. Assumes nothing.
use mathlib.Core.Path.{◌≡◌}
use Prim.Native.Nat.{◌*◌, ◌≤◌}
use Rattle.matrices.proofs.Counting.{counted}
use Rattle.unions.proofs.matrix.Matrix.coupons.Given as goal

abbrev pub invariant-loop-word : goal.invariant-loop-word
invariant-loop-word l = (l.sum ≡ counted l.self.words.now l.word-index) × (l.sum ≤ 64 * l.word-index)
