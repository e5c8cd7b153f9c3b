-- `unions::split` meets its contract. Assumes nothing.
use mathlib.Core.Path.{sym, ap, ◌∙◌}
use Rattle.numbers.specs.declared.size.SketchSize.{SketchSize}
use Rattle.unions.proofs.SplitTold.{split_matrix}
use Rattle.unions.proofs.split.Goals as goal

pub returns : goal.returns
returns c = let a = c.args in
    let q = c.in_ok-read.read in
    let given = c.in_ok-read.ensures.given in
    split_matrix q a.lg a.matrix.now a.window.now a.pairs.now (ap (λ (s : SketchSize). s.lg) given.0 ∙ c.in_ok-size.ensures.same_lg) given.1
    (c.if-window-size.false ∙ sym (ap (λ (s : SketchSize). s.k) given.0)) (sym c.has_reserved.ensures ∙ c.if-has_reserved.false) _ _ _ c.split_rows.ensures
