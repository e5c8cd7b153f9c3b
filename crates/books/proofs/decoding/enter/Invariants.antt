-- `books::decoding::enter`: what its loop keeps true. Assumes nothing.
use Prim.Native.Nat.{◌^◌}
use Rattle.books.specs.Book.{length_in}
use Rattle.books.proofs.Filling.{Entering}
use Rattle.books.proofs.decoding.enter.Given as goal

abbrev pub invariant-loop-n : goal.invariant-loop-n
invariant-loop-n l = Entering l.initial.table l.table l.entry l.value (2 ^ length_in l.entry) l.n
