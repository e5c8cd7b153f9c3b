-- `compression::coded_stream::CodedStream::take_zeros`: what its loops keep true, and why they end. Assumes nothing.
use Prim.Native.Nat.{◌-◌}
use Rattle.streams.specs.Stream.{word_bits}
use Rattle.compression.specs.Reading.{place_of}
use Rattle.compression.proofs.ZerosLooks.{ZerosHead}
use Rattle.compression.proofs.coded_stream.CodedStream.take_zeros.Given as goal

abbrev pub invariant-loop-bits : goal.invariant-loop-bits
invariant-loop-bits l = ZerosHead l.self.bytes.now (place_of l.initial.at) l.zeros l.at

abbrev pub decreases-loop-bits : goal.decreases-loop-bits
decreases-loop-bits l = word_bits l.self.bytes.now - place_of l.at
