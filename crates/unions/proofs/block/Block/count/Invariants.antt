-- `unions::block::Block::count`: what its loops keep true, and why they end. Assumes nothing.
use mathlib.Core.Path.{◌≡◌}
use lib.ListN.{length}
use Rattle.matrices.specs.Parts.{windowed}
use Rattle.unions.specs.Steps.{pairs_from}
use Rattle.unions.proofs.block.Block.count.Given as goal

abbrev pub invariant-loop-j : goal.invariant-loop-j
invariant-loop-j l = l.count ≡ length (pairs_from (windowed l.self.cut.shape.flavor) l.self.cut.shape.offset.column l.self.cut.words.now l.self.first l.j)
