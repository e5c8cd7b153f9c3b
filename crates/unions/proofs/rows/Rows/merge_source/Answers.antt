-- `unions::rows::Rows::merge_source` meets its contract. Assumes nothing.
use mathlib.Core.Path.{ap, ap₂, ◌∙◌}
use mathlib.Core.List.{List}
use Prim.Native.Nat.{ℕ, ◌+◌}
use lib.ListN.{length}
use Rattle.laws.specs.Choose.{choose}
use Rattle.numbers.specs.declared.size.SketchSize.{SketchSize}
use Rattle.matrices.specs.Matrix.{matrix_of}
use Rattle.matrices.specs.Parts.{windowed}
use Rattle.matrices.specs.Shapes.{merged}
use Rattle.unions.specs.Steps.{early_set, pairs_set}
use Rattle.matrices.proofs.Rows.{length_matrix}
use Rattle.unions.proofs.rows.Rows.merge_source.Goals as goal

pub returns : goal.returns
returns c = let p = c.args.source.now in
    let k = c.args.self.now.size.k in
    let ps = p.pairs.now in
    let m = c.args.self.now.words.now in
    let t = c.merge_rows.new.self in
    let first = choose (windowed p.shape.flavor) (p.shape.offset.column + 8) 0 in (
      c.merge_pairs.ensures.0
          ∙ ap₂ (λ (size : SketchSize) (x : ℕ). matrix_of (length t.words.now) (pairs_set size.k x t.words.now ps (length ps))) c.merge_rows.ensures.1 c.first_late.ensures
          ∙ ap₂ (λ (n : ℕ) (m : List ℕ). matrix_of n (pairs_set k first m ps (length ps))) (ap length c.merge_rows.ensures.0 ∙ length_matrix (length m) _) c.merge_rows.ensures.0
          ∙ ap (λ (n : ℕ). matrix_of (length m) (pairs_set n first (matrix_of (length m) (merged n (length p.window.now) m (early_set p.shape.offset.column p.window.now ps))) ps (length ps))) c.args.self.now.size.power,
      c.merge_pairs.ensures.1 ∙ c.merge_rows.ensures.1,
      c.merge_pairs.ensures.2 ∙ c.merge_rows.ensures.2,
    )
