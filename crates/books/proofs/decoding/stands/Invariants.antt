-- `books::decoding::stands`: what its loop keeps true. Assumes nothing.
use mathlib.Core.Path.{◌≡◌}
use Prim.Native.Nat.{ℕ, ◌<◌}
use lib.ListN.{get_or}
use Rattle.books.specs.Book.{codeword_in}
use Rattle.books.specs.Steps.{entry_of}
use Rattle.books.proofs.decoding.stands.Given as goal

abbrev pub invariant-loop-x : goal.invariant-loop-x
invariant-loop-x l = ((y : ℕ) → y < l.x → get_or l.table (codeword_in (get_or l.book.entries.now y 0)) 0 ≡ entry_of l.book.entries.now y)
