-- `books::decoding::fill`: what its loop keeps true. Assumes nothing.
use Rattle.books.proofs.Filling.{Filling}
use Rattle.books.proofs.decoding.fill.Given as goal

abbrev pub invariant-loop-x : goal.invariant-loop-x
invariant-loop-x l = Filling l.book.entries.now l.table l.x
