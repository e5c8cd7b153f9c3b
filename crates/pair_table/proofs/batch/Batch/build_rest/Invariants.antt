-- `pair_table::batch::Batch::build_rest`: what its loop keeps true. Assumes nothing.
use Rattle.tables.specs.Changes.{blank}
use Rattle.tables.proofs.Finger.{Before}
use Rattle.pair_table.proofs.batch.Batch.build_rest.Given as goal

abbrev pub invariant-loop-i : goal.invariant-loop-i
invariant-loop-i l = Before l.list (blank l.initial.slots) l.slots l.self.shape.lg l.self.shape.valid l.row.end l.row.len l.row.top l.i
