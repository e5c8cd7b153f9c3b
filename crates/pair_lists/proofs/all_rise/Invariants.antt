-- `pair_lists::all_rise`: what its loop keeps true. Assumes nothing.
use Rattle.pair_lists.proofs.RisingPairs.{Rising}
use Rattle.pair_lists.proofs.all_rise.Given as goal

abbrev pub invariant-loop-i : goal.invariant-loop-i
invariant-loop-i l = Rising l.pairs l.rises l.i
