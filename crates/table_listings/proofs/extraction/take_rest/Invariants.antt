-- `table_listings::extraction::take_rest`: what its loop keeps true. Assumes nothing.
use Rattle.tables.proofs.Extract.{Onward}
use Rattle.table_listings.proofs.extraction.take_rest.Given as goal

abbrev pub invariant-loop-i : goal.invariant-loop-i
invariant-loop-i l = Onward l.slots l.initial.out l.out l.from l.fore l.i l.next
