-- `unions::block::Block::any_surprise`: what its loops keep true, and why they end. Assumes nothing.
use Prim.Native.Nat.{◌+◌}
use Rattle.matrices.specs.Parts.{windowed}
use Rattle.unions.specs.Steps.{QuietIf}
use Rattle.unions.proofs.block.Block.any_surprise.Given as goal

abbrev pub invariant-loop-j : goal.invariant-loop-j
invariant-loop-j l = QuietIf l.all (windowed l.self.cut.shape.flavor) l.self.cut.shape.offset.column l.self.cut.words.now l.self.first (l.self.first + l.j)
