-- `pair_table::building::lg_for`: what its loop keeps true. Assumes nothing.
use Rattle.pair_table.proofs.StoringLists.{Sizing}
use Rattle.pair_table.proofs.building.lg_for.Given as goal

abbrev pub invariant-loop-lg : goal.invariant-loop-lg
invariant-loop-lg l = Sizing l.items l.lg
