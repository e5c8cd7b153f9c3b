-- `books::marks::join`: what its loop keeps true. Assumes nothing.
use Rattle.books.specs.Steps.{Joined}
use Rattle.books.proofs.marks.join.Given as goal

abbrev pub invariant-loop-i : goal.invariant-loop-i
invariant-loop-i l = Joined l.initial.marks l.marks l.from l.to l.i
