-- `compression::window_reader::read_into`: what its loop keeps true. Assumes nothing.
use Rattle.compression.proofs.ReadingWindow.{WindowHead}
use Rattle.compression.proofs.window_reader.read_into.Given as goal

abbrev pub invariant-loop-i : goal.invariant-loop-i
invariant-loop-i l = WindowHead l.coded.bytes.now l.coded.table.now l.initial.window l.window l.cursor l.i
