-- `books::book::SizedBook::taken`: what its loop keeps true. Assumes nothing.
use Rattle.books.proofs.Shaping.{Passing}
use Rattle.books.proofs.book.SizedBook.taken.Given as goal

abbrev pub invariant-loop-x : goal.invariant-loop-x
invariant-loop-x l = Passing l.self.entries.now l.sum l.x
