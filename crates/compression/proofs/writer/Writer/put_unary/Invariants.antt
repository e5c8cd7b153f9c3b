-- `compression::writer::Writer::put_unary`: what its loops keep true, and why they end. Assumes nothing.
use Prim.Native.Nat.{◌-◌, ◌≤◌}
use Rattle.compression.specs.Writing.{PutBy}
use Rattle.compression.proofs.writer.Writer.put_unary.Given as goal

abbrev pub invariant-loop-left : goal.invariant-loop-left
invariant-loop-left l = (l.left ≤ l.zeros) × PutBy l.initial.out l.out l.initial.at l.at 0 (l.zeros - l.left)

abbrev pub decreases-loop-left : goal.decreases-loop-left
decreases-loop-left l = l.left
