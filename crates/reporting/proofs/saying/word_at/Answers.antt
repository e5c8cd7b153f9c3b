-- `reporting::saying::word_at` meets its contract. Assumes nothing.
use mathlib.Core.Path.{◌≡◌, ap, ◌∙◌}
use Prim.Native.Nat.{ℕ, ◌*◌}
use native.Mathlib.Omega.{arith}
use Rattle.streams.specs.Stream.{number, bits_at}
use Rattle.compression.proofs.ReaderStream.{four_bytes}
use Rattle.reporting.proofs.saying.word_at.Goals as goal

times_8 : (i : ℕ) → 8 * (i * 4) ≡ 32 * i
times_8 i = omega arith

pub returns : goal.returns
returns c = let s = c.args.stream.now in
    let i = c.args.index in
    let same : bits_at (number s) (8 * (i * 4)) 32 ≡ bits_at (number s) (32 * i) 32 = ap (λ (k : ℕ). bits_at (number s) k 32) (times_8 i) in
    omega (arith, four_bytes s (i * 4) (λ j. (c.shared_slice_known-1.given j).fits)) ∙ same
