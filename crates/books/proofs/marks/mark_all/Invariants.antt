-- `books::marks::mark_all`: what its loop keeps true. Assumes nothing.
use Rattle.books.specs.Steps.{Marking}
use Rattle.books.proofs.marks.mark_all.Given as goal

abbrev pub invariant-loop-entry : goal.invariant-loop-entry
invariant-loop-entry l = Marking l.book.entries.now l.marks l.entry-index
