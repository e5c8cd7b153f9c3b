-- `unions::counting::Matrix::has_reserved` meets its contract. Assumes nothing.
use mathlib.Core.Path.{refl}
use borrow.Author.Tests.{eq-eqb}
use Rattle.laws.specs.Columns.{has}
use Rattle.unions.proofs.matrix.Matrix.has_reserved.Goals as goal

pub returns : goal.returns
unfolding has
returns c = rw (eq-eqb _ _ c.if-self-ne26.false) refl
