-- `unions::offset::Offset::judge_columns` meets its contract. Assumes nothing.
use mathlib.Core.Path.{ap, ◌∙◌}
use Rattle.unions.specs.Steps.{wrong_at}
use Rattle.unions.proofs.WrongPlaces.{columns_placed}
use Rattle.unions.proofs.offset.Offset.judge_columns.Goals as goal

pub returns : goal.returns
returns c = let a = c.args in c.refuse_at.ensures ∙ ap wrong_at c.first_inside.ensures ∙ columns_placed a.self.column a.pairs.now
