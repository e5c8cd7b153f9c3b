-- `unions::filling::write_rows` meets its contract. Assumes nothing.
use mathlib.Core.Path.{sym, ap, ◌∙◌}
use mathlib.Core.Bool.{Bool}
use mathlib.Core.List.{[]}
use lib.ListN.{length}
use Rattle.matrices.specs.Matrix.{matrix_of}
use Rattle.matrices.specs.Source.{source_set}
use Rattle.unions.proofs.Flips.{bare_none}
use Rattle.unions.proofs.filling.write_rows.Goals as goal

pub returns : goal.returns
returns c = let s = c.args.source.now in
    let n = length c.args.matrix.now in
    c.fill.ensures.after (λ y e. e)
    ∙ bare_none n s.shape.offset.column s.window.now
    ∙ sym (ap (λ (b : Bool). matrix_of n (source_set b s.shape.offset.column s.window.now [])) (sym c.is_wide.ensures ∙ c.if-is_wide.false))
