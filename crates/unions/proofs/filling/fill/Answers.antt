-- `unions::filling::fill` meets its contract. Assumes nothing.
use mathlib.Core.Path.{ap₂, ◌∙◌}
use mathlib.Core.List.{List}
use Prim.Native.Nat.{ℕ, ◌+◌, ◌*◌}
use lib.ListN.{length}
use Rattle.laws.specs.Columns.{differs}
use Rattle.matrices.specs.Listing.{in_list}
use Rattle.matrices.specs.Matrix.{at, matrix_of}
use Rattle.matrices.specs.Parts.{windowed}
use Rattle.unions.proofs.Flips.{flipped_source}
use Rattle.unions.proofs.filling.fill.Goals as goal

pub returns : goal.returns
returns c = let a = c.args in
    let s = a.source.now in
    let ps = s.pairs.now in
    c.flip_pairs.ensures
    ∙ ap₂ (λ (n : ℕ) (m : List ℕ). matrix_of n (λ r c. differs (at m r c) (in_list ps (64 * r + c)))) c.write_rows.auto.matrix c.write_rows.ensures
    ∙ flipped_source (windowed s.shape.flavor) s.shape.offset.column s.window.now ps s.apart (length a.matrix.now)
