-- `pair_table::building::first_bad`: what its loop keeps true. Assumes nothing.
use Rattle.pair_table.proofs.StoringLists.{Judging}
use Rattle.pair_table.proofs.building.first_bad.Given as goal

abbrev pub invariant-loop-i : goal.invariant-loop-i
invariant-loop-i l = Judging l.valid l.list l.i
