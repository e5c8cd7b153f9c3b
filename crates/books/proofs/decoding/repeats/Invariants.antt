-- `books::decoding::repeats`: what its loop keeps true. Assumes nothing.
use Prim.Native.Nat.{ℕ, ◌+◌, ◌*◌, ◌^◌, ◌<◌}
use Rattle.books.specs.Steps.{Repeats}
use Rattle.books.proofs.decoding.repeats.Given as goal

abbrev pub invariant-loop-bits : goal.invariant-loop-bits
invariant-loop-bits l = ((b : ℕ) → b < l.bits → Repeats l.table (2 ^ b) ((b + 1) * 256))
