-- `compression::pair_writer::PairWriterCoding::enough` meets its contract. Assumes nothing.
use native.Mathlib.Omega.{arith}
use mathlib.Core.Path.{◌≡◌, sym, ap, ◌∙◌}
use borrow.Author.Tests.{le-ltb}
use lib.ListN.{length}
use Rattle.std.specs.Prelude.{Ok}
use Rattle.refusals.specs.Told.{told_length}
use Rattle.numbers.specs.Numbers.{most_bits_at}
use Rattle.streams.proofs.Granted.{granted_shaped, most_small}
use Rattle.compression.proofs.pair_writer.PairWriterCoding.enough.Goals as goal

pub returns : goal.returns
returns c = let w = c.args.self.now in
    let k = w.list.size.k in
    let pairs = w.list.pairs.now in
    let granted : told_length (Ok c.unwrap.result) ≡ told_length c.most_bits-granted.result = ap told_length (sym c.unwrap.ensures) in
    let e = simp (le-ltb 268435456 (length pairs) w.list.few) at (granted ∙ c.most_bits-granted.ensures) in
    let is : c.unwrap.result.bits.0 ≡ most_bits_at k (length pairs) = cc e in (
      omega (arith, is, granted_shaped w.book.entries.now k pairs w.book.shaped w.book.sized w.list.size.most w.list.lawful),
      omega (arith, is, most_small k (length pairs) w.list.few),
    )
