-- `unions::splitting::write_windows`: what its loops keep true, and why they end. Assumes nothing.
use mathlib.Core.Path.{◌≡◌}
use lib.ListN.{length}
use Rattle.matrices.specs.Shapes.{windows}
use Rattle.matrices.proofs.Rewriting.{rewritten}
use Rattle.unions.proofs.splitting.write_windows.Given as goal

abbrev pub invariant-loop-r : goal.invariant-loop-r
invariant-loop-r l = (length l.window ≡ length l.initial.window) × (l.window ≡ rewritten l.initial.window (windows l.offset.column l.matrix) l.r)
