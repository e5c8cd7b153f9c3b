-- `compression::pair_writer::PairWriterCoding::put_all`: what its loop keeps true. Assumes nothing.
use Rattle.compression.proofs.PuttingPairs.{Head}
use Rattle.compression.proofs.pair_writer.PairWriterCoding.put_all.Given as goal

abbrev pub invariant-loop-pair : goal.invariant-loop-pair
invariant-loop-pair l = Head l.book.entries.now l.base.count l.self.list.size.k l.pair-items l.initial.out l.initial.at l.out l.at l.before.row l.before.column l.pair-index
