-- `unions::block::Block::hit_rows`: what its loops keep true, and why they end. Assumes nothing.
use mathlib.Core.Path.{◌≡◌}
use Rattle.matrices.specs.Parts.{windowed}
use Rattle.laws.specs.Columns.{word_of}
use Rattle.unions.proofs.Blocks.{hit}
use Rattle.unions.proofs.block.Block.hit_rows.Given as goal

abbrev pub invariant-loop-j : goal.invariant-loop-j
invariant-loop-j l = l.hits ≡ word_of l.j (hit (windowed l.self.cut.shape.flavor) l.self.cut.shape.offset.column l.self.cut.words.now l.self.first)
