-- `unions::merging::Judged::early_pairs`: what its loops keep true, and why they end. Assumes nothing.
use mathlib.Core.Path.{◌≡◌}
use Prim.Native.Nat.{◌+◌, ◌*◌}
use Rattle.unions.proofs.EarlyPairs.{Taken}
use Rattle.unions.proofs.judged.Judged.early_pairs.Given as goal

abbrev pub invariant-loop-i : goal.invariant-loop-i
invariant-loop-i l = (l.end ≡ 64 * l.row + l.self.shape.offset.column) × Taken l.self.shape.offset.column l.self.pairs.now l.row l.i l.word
