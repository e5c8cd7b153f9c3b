-- `unions::words::Offset::surprises_of` meets its contract. Assumes nothing.
use mathlib.Core.Path.{◌∙◌, ap}
use Prim.Native.Nat.{ℕ}
use lib.Dec.{ltb}
use Rattle.laws.specs.Columns.{has, word_of, differs}
use Rattle.matrices.proofs.Parting.{surprises_steps}
use Rattle.unions.proofs.offset.Offset.surprises_of.Goals as goal

pub returns : goal.returns
returns c = let a = c.args in
    c.flip_below.ensures
    ∙ ap (λ (x : ℕ). word_of 64 (λ d. differs (has x d) (ltb d a.self.column))) c.clear_window.ensures
    ∙ surprises_steps a.self.column a.w
