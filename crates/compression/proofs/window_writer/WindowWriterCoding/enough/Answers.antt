-- `compression::window_writer::WindowWriterCoding::enough` meets its contract. Assumes nothing.
use native.Mathlib.Omega.{arith}
use Rattle.compression.proofs.CountingBits.{window_most}
use Rattle.compression.proofs.window_writer.WindowWriterCoding.enough.Goals as goal

pub returns : goal.returns
returns c = let w = c.args.self.now in
    let most = window_most w.book.entries.now w.window.bytes.now w.book.shaped in
    (omega (arith, most), omega (arith, w.window.few))
