-- `unions::count` meets its contract. Assumes nothing.
use mathlib.Core.Path.{sym, ◌∙◌}
use Rattle.matrices.proofs.Fits.{coupons_fit}
use Rattle.unions.proofs.count.Goals as goal

pub overflow_cast-result : goal.overflow_cast-result
overflow_cast-result c = let m = c.in_ok-read.read in
    record { fits = rw c.coupons.ensures (coupons_fit m.size.lg m.words.now m.size.high (m.long ∙ m.size.power) (sym c.has_reserved.ensures ∙ c.if-has_reserved.false)) }
