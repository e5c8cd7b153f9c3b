-- `pair_lists::first_fault`: what its loop keeps true. Assumes nothing.
use Rattle.pair_lists.proofs.Judging.{Judging}
use Rattle.pair_lists.proofs.first_fault.Given as goal

abbrev pub invariant-loop-i : goal.invariant-loop-i
invariant-loop-i l = Judging l.k l.pairs l.least l.i
