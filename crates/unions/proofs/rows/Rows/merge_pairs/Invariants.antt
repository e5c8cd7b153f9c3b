-- `unions::rows::Rows::merge_pairs`: what its loops keep true, and why they end. Assumes nothing.
use mathlib.Core.Path.{◌≡◌}
use lib.ListN.{length}
use Rattle.matrices.specs.Matrix.{matrix_of}
use Rattle.unions.specs.Steps.{pairs_set}
use Rattle.unions.specs.Rows.{LeftAs}
use Rattle.unions.proofs.rows.Rows.merge_pairs.Given as goal

abbrev pub invariant-loop-pair : goal.invariant-loop-pair
invariant-loop-pair l = (length l.self.words.now ≡ length l.initial.self.words.now) × LeftAs l.initial.self l.self l.initial.self.size (matrix_of (length l.initial.self.words.now) (pairs_set l.initial.self.size.k l.first l.initial.self.words.now l.pairs l.pair-index))
