-- `reporting::take`: what its loop keeps true. Assumes nothing.
use mathlib.Core.Path.{◌≡◌}
use lib.ListN.{drop}
use Rattle.reporting.specs.Machine.{taken_of}
use Rattle.reporting.proofs.take.Given as goal

abbrev pub invariant-loop-byte : goal.invariant-loop-byte
invariant-loop-byte l = (taken_of l.after (drop l.byte-index l.part) l.pairs ≡ taken_of l.initial.after l.part l.initial.pairs)
