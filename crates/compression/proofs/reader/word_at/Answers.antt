-- `compression::reader::word_at` meets its contract. Assumes nothing.
use native.Mathlib.Omega.{arith}
use Rattle.compression.proofs.ReaderStream.{four_bytes}
use Rattle.compression.proofs.reader.word_at.Goals as goal

pub returns : goal.returns
returns c = let a = c.args in
    omega (arith, four_bytes a.stream.now a.i (λ k. (c.type_inv.stream k).fits), c.from.ensures, c.from_le_bytes.ensures)
