-- `books::marks::spread`: what its loop keeps true. Assumes nothing.
use Rattle.books.proofs.Spreading.{Spreading}
use Rattle.books.proofs.marks.spread.Given as goal

abbrev pub invariant-loop-d : goal.invariant-loop-d
invariant-loop-d l = Spreading l.initial.marks l.marks l.d
