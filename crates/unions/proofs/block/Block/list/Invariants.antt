-- `unions::block::Block::list`: what its loops keep true, and why they end. Assumes nothing.
use mathlib.Core.Path.{◌≡◌}
use lib.ListN.{length}
use Rattle.matrices.specs.Parts.{windowed}
use Rattle.matrices.specs.Shapes.{row_pairs}
use Rattle.unions.proofs.Blocks.{HitsListed}
use Rattle.unions.proofs.block.Block.list.Given as goal

abbrev pub invariant-loop-rest : goal.invariant-loop-rest
invariant-loop-rest l = (length l.out ≡ length l.initial.out) × HitsListed (windowed l.self.cut.shape.flavor) l.self.cut.shape.offset.column l.self.cut.words.now l.self.first (record { ored = l.initial.ored; count = l.initial.n }) l.initial.out l.rest (record { ored = l.ored; count = l.n }) l.out

abbrev pub decreases-loop-rest : goal.decreases-loop-rest
decreases-loop-rest l = length (row_pairs 0 l.rest)
