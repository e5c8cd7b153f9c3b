-- `pair_table::batch::Batch::build_rising`: what its loop keeps true. Assumes nothing.
use Rattle.pair_table.proofs.RisingLists.{Rising}
use Rattle.pair_table.proofs.batch.Batch.build_rising.Given as goal

abbrev pub invariant-loop-i : goal.invariant-loop-i
invariant-loop-i l = Rising l.self.list.now l.initial.slots l.slots l.self.shape.lg l.self.shape.valid l.p l.least l.i
