-- `compression::coded_stream::CodedStream::fill` meets its contract. Assumes nothing.
use native.Mathlib.Omega.{arith}
use Rattle.compression.proofs.ReaderBuffer.{fill_stands}
use Rattle.compression.proofs.coded_stream.CodedStream.fill.Goals as goal

pub returns : goal.returns
returns c = let a = c.args in
    (fill_stands a.self.bytes.now a.cursor c.word_at-word.result c.requires.0 (omega arith) (omega arith) c.word_at-word.ensures, omega arith, omega arith)
