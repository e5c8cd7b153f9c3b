-- `compression::coded_stream::CodedStream::look` meets its contract. Assumes nothing.
use native.Mathlib.Omega.{arith}
use Rattle.compression.specs.Reading.{place_of}
use Rattle.compression.proofs.ReaderBuffer.{look_bits, inside_words}
use Rattle.compression.proofs.coded_stream.CodedStream.look.Goals as goal

pub returns-in-Some : goal.returns-in-Some
returns-in-Some c = let a = c.args in
    let s = a.self.bytes.now in
    let f = c.in-Some.full in
    let h = c.in-Some.ensures in
    let inside = inside_words s f h.0 in
    (omega arith, look_bits s f (place_of a.cursor) a.count h.0 h.1 h.2 (omega arith), h.0, h.1, h.2)
