-- `compression::window_writer::WindowWriterCoding::count`: what its loop keeps true. Assumes nothing.
use Rattle.compression.proofs.CountingBits.{CountingWindow}
use Rattle.compression.proofs.window_writer.WindowWriterCoding.count.Given as goal

abbrev pub invariant-loop-byte : goal.invariant-loop-byte
invariant-loop-byte l = CountingWindow l.self.book.entries.now l.bytes l.sum l.byte-index
