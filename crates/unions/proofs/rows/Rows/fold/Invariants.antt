-- `unions::rows::Rows::fold`: what its loops keep true, and why they end. Assumes nothing.
use mathlib.Core.Path.{◌≡◌}
use lib.ListN.{length}
use Rattle.matrices.specs.Matrix.{matrix_of}
use Rattle.matrices.proofs.Folding.{partly}
use Rattle.unions.specs.Rows.{LeftAs}
use Rattle.unions.proofs.rows.Rows.fold.Given as goal

abbrev pub invariant-loop-s : goal.invariant-loop-s
invariant-loop-s l = (length l.self.words.now ≡ length l.initial.self.words.now) × LeftAs l.initial.self l.self l.initial.self.size (matrix_of (length l.initial.self.words.now) (partly l.size.k l.s l.initial.self.words.now))
