-- `unions::merging::Judged::next_early`: what its loops keep true, and why they end. Assumes nothing.
use Prim.Native.Nat.{ℕ, ◌%◌, ◌≤◌, ◌<◌}
use lib.ListN.{get_or}
use Rattle.unions.proofs.judged.Judged.next_early.Given as goal

abbrev pub invariant-loop-i : goal.invariant-loop-i
invariant-loop-i l = (j : ℕ) → l.start ≤ j → j < l.i → l.self.shape.offset.column ≤ get_or l.self.pairs.now j 0 % 64
