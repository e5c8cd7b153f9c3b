-- `pair_table::changing::move_back`: what its loop keeps true. Assumes nothing.
use Rattle.pair_table.proofs.Rebuilding.{Moving}
use Rattle.pair_table.proofs.changing.move_back.Given as goal

abbrev pub invariant-loop-i : goal.invariant-loop-i
invariant-loop-i l = Moving l.initial.region l.initial.spare l.region l.spare l.i
