-- `books::decoding::level_repeats`: what its loop keeps true. Assumes nothing.
use Rattle.std.specs.Iterator.Adapters.{zip_first, zip_second}
use Rattle.std.specs.Slice.Iter.{iter_rest}
use Rattle.books.proofs.Repeating.{Halved}
use Rattle.books.proofs.decoding.level_repeats.Given as goal

abbrev pub invariant-loop-a : goal.invariant-loop-a
invariant-loop-a l = Halved l.table l.half l.limit l.count (iter_rest (zip_first l.a-iterator)) (iter_rest (zip_second l.a-iterator))
