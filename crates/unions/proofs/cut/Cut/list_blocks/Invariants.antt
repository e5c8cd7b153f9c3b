-- `unions::cut::Cut::list_blocks`: what its loops keep true, and why they end. Assumes nothing.
use mathlib.Core.Path.{◌≡◌}
use lib.ListN.{length}
use Rattle.matrices.specs.Parts.{windowed}
use Rattle.unions.specs.Steps.{Added, block_pairs}
use Rattle.unions.proofs.cut.Cut.list_blocks.Given as goal

abbrev pub invariant-loop-r : goal.invariant-loop-r
invariant-loop-r l = (length l.out ≡ length l.initial.out) × Added (block_pairs (windowed l.self.shape.flavor) l.self.shape.offset.column l.self.words.now l.found l.r-index) l.initial.all l.initial.out l.all l.out
