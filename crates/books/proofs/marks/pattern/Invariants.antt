-- `books::marks::pattern`: what its loop keeps true. Assumes nothing.
use Rattle.books.proofs.Patterns.{Pattern}
use Rattle.books.proofs.marks.pattern.Given as goal

abbrev pub invariant-loop-bits : goal.invariant-loop-bits
invariant-loop-bits l = Pattern l.len l.codeword l.word l.bits
