-- `unions::planning::zero_from` meets its contract. Assumes nothing.
use mathlib.Core.Path.{sym}
use native.Mathlib.Omega.{arith}
use Rattle.matrices.proofs.Lawful.{zero_passed, zero_failed}
use Rattle.unions.proofs.planning.zero_from.Goals as goal

pub returns-then-matrix-row-ne0 : goal.returns-then-matrix-row-ne0
returns-then-matrix-row-ne0 c = let a = c.args in
    sym (zero_failed a.size.k a.matrix.now c.loop-row.row c.loop-row.auto.row (omega (arith, c.loop-row-test)) c.if-matrix-row-ne0.true)

pub returns : goal.returns
returns c = let a = c.args in sym (zero_passed a.size.k a.matrix.now (λ r b h. c.loop-row.invariant r b (omega arith)))
