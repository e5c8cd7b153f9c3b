-- `compression::coded_stream::CodedStream::take_zeros` meets its contract. Assumes nothing.
use mathlib.Core.Path.{◌≡◌, ap, ◌∙◌}
use Prim.Native.Nat.{ℕ, ◌+◌}
use native.Mathlib.Omega.{arith}
use borrow.Author.Rules.{rules}
use Rattle.streams.specs.Stream.{number, word_bits}
use Rattle.streams.specs.Looks.{cut, zeros_at}
use Rattle.compression.specs.Reading.{place_of}
use Rattle.compression.proofs.ZerosLooks.{zeros_cut, zeros_found, zeros_turn}
use Rattle.compression.proofs.coded_stream.CodedStream.take_zeros.Goals as goal

pub returns-in_err-bits : goal.returns-in_err-bits
returns-in_err-bits c = let s = c.args.self.bytes.now in
    let e = c.in_err-bits.ensures in
    let is : zeros_at (number s) (word_bits s) (place_of c.args.cursor) ≡ cut c.in_err-bits.field-0.0.bit =
    zeros_cut s (place_of c.args.cursor) c.loop-bits.zeros c.loop-bits.at c.loop-bits.invariant _ e.0 e.1 in
    search rules

pub returns-then-bits-ne0 : goal.returns-then-bits-ne0
returns-then-bits-ne0 c = let s = c.args.self.bytes.now in
    let h = c.in_ok-bits.ensures in
    let last = c.zeros_in-last in
    let after = c.skip.ensures s h.2 in (
      zeros_found s (place_of c.args.cursor) c.loop-bits.zeros c.loop-bits.at c.loop-bits.invariant h.0 c.in_ok-bits.bits h.1 last.result _
          (place_of c.skip.result) c.if-bits-ne0.true last.ensures.0 (ap (λ (x : ℕ). c.loop-bits.zeros + x) c.from.ensures) (after.1 ∙ ap (λ (x : ℕ). x + (last.result + 1)) h.3),
      after.0,
      omega (arith, c.from.ensures, c.loop-bits.invariant.place, h.0, c.args.self.short, last.ensures.1),
    )

pub loop-bits-preserved : goal.loop-bits-preserved
loop-bits-preserved c = let s = c.args.self.bytes.now in
    let h = c.in_ok-bits.ensures in
    let after = c.skip-at.ensures s h.2 in
    zeros_turn s (place_of c.args.cursor) c.loop-bits.zeros c.loop-bits.at c.loop-bits.invariant h.0 c.in_ok-bits.bits h.1
    c.skip-at.result (omega arith) after.0 (after.1 ∙ ap (λ (x : ℕ). x + 8) h.3)
