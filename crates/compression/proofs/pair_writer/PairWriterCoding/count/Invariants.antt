-- `compression::pair_writer::PairWriterCoding::count`: what its loop keeps true. Assumes nothing.
use Rattle.compression.proofs.CountingBits.{CountingPairs}
use Rattle.compression.proofs.pair_writer.PairWriterCoding.count.Given as goal

abbrev pub invariant-loop-pair : goal.invariant-loop-pair
invariant-loop-pair l = CountingPairs l.book.entries.now l.base.count l.self.list.size.k l.pair-items l.sum l.before.row l.before.column l.pair-index
