-- `compression::coded_stream::CodedStream::take_row_step` meets its contract. Assumes nothing.
use mathlib.Core.Path.{ap}
use Prim.Native.Nat.{ℕ, ◌+◌}
use Rattle.streams.specs.Stream.{number, word_bits}
use Rattle.compression.specs.Reading.{place_of}
use Rattle.compression.proofs.LookingFields.{row_exact, row_fits, row_found}
use Rattle.compression.proofs.coded_stream.CodedStream.take_row_step.Goals as goal

pub overflow_add-result : goal.overflow_add-result
overflow_add-result c = let zeros = c.in_ok-zeros in
    let b = c.args.base in
    rw (row_exact zeros.zeros b.count zeros.ensures.2 b.few) (record { fits = row_fits zeros.zeros b.count c.in_ok-low.low zeros.ensures.2 b.few c.in_ok-low.ensures.2 })

pub returns : goal.returns
returns c = let s = c.args.self.bytes.now in
    let b = c.args.base in
    let zeros = c.in_ok-zeros in
    let low = c.in_ok-low in
    let exact = row_exact zeros.zeros b.count zeros.ensures.2 b.few in (
      row_found (number s) (word_bits s) b.count (place_of c.args.cursor) zeros.zeros _ low.low _ _ zeros.ensures.0 low.ensures.0 (ap (λ (x : ℕ). x + low.low) exact),
      low.ensures.1,
      rw exact (row_fits zeros.zeros b.count low.low zeros.ensures.2 b.few low.ensures.2),
    )
