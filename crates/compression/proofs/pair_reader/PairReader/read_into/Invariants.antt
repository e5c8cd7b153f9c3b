-- `compression::pair_reader::PairReader::read_into`: what its loop keeps true. Assumes nothing.
use Rattle.compression.proofs.ReadingPairs.{PairsHead}
use Rattle.compression.proofs.pair_reader.PairReader.read_into.Given as goal

abbrev pub invariant-loop-i : goal.invariant-loop-i
invariant-loop-i l = PairsHead l.self.coded.bytes.now l.self.coded.table.now l.self.base.count l.self.size.k l.count l.initial.out l.out l.state l.i
