-- `unions::parts::Parts::late_bit` meets its contract. Assumes nothing.
use mathlib.Core.Path.{refl}
use borrow.Author.Tests.{eq-eqb, le-leb}
use Rattle.laws.specs.Columns.{has}
use Rattle.unions.proofs.parts.Parts.late_bit.Goals as goal

pub returns : goal.returns
unfolding has
returns c = rw (c.from.ensures, eq-eqb _ _ c.if-self-ne26.false, le-leb _ _ c.if-offset-lt56.false) refl
