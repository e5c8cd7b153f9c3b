-- `unions::offset::Offset::judge_window` meets its contract. Assumes nothing.
use mathlib.Core.Path.{sym, ap, ◌∙◌}
use Rattle.matrices.proofs.Places.{window_clear}
use Rattle.unions.specs.Steps.{wrong_at}
use Rattle.unions.proofs.WrongPlaces.{window_placed}
use Rattle.unions.proofs.offset.Offset.judge_window.Goals as goal

pub returns-then-self-le56 : goal.returns-then-self-le56
returns-then-self-le56 c = let a = c.args in sym (window_clear a.self.column a.window.now c.if-self-le56.true)

pub returns : goal.returns
returns c = let a = c.args in c.refuse_at.ensures ∙ ap wrong_at c.first_past.ensures ∙ window_placed a.self.column a.window.now
