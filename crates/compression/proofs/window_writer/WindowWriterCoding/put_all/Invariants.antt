-- `compression::window_writer::WindowWriterCoding::put_all`: what its loop keeps true. Assumes nothing.
use Prim.Native.Nat.{◌*◌}
use Rattle.compression.proofs.PuttingWindow.{WindowHead}
use Rattle.compression.proofs.window_writer.WindowWriterCoding.put_all.Given as goal

abbrev pub invariant-loop-two : goal.invariant-loop-two
invariant-loop-two l = WindowHead l.writer.book.entries.now l.writer.window.bytes.now l.initial.out l.initial.at l.out l.at (2 * l.two-index)
