-- `pair_table::building::highest`: what its loop keeps true. Assumes nothing.
use Rattle.pair_table.specs.Steps.{NoneAbove}
use Rattle.pair_table.proofs.building.highest.Given as goal

abbrev pub invariant-loop-x : goal.invariant-loop-x
invariant-loop-x l = NoneAbove l.list l.x-index l.top
