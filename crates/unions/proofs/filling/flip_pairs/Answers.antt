-- `unions::filling::flip_pairs` meets its contract. Assumes nothing.
use mathlib.Core.Path.{◌≡◌, ap, ◌∙◌}
use mathlib.Core.List.{List}
use Prim.Native.Nat.{ℕ, ◌/◌, ◌%◌, ◌<◌}
use native.Mathlib.Omega.{arith}
use lib.Dec.{eqb}
use lib.ListN.{length, get_or, set, length-set}
use Rattle.laws.specs.Columns.{word_of, differs}
use Rattle.matrices.specs.Matrix.{at, matrix_of}
use Rattle.unions.proofs.Flips.{flipped_to, flip_start, flip_turn, flip_end}
use Rattle.unions.proofs.filling.flip_pairs.Goals as goal

pub loop-pair-init : goal.loop-pair-init
loop-pair-init c = let a = c.args in (omega arith, flip_start a.matrix.now a.source.now.pairs.now (λ r. (c.type_inv.matrix r).fits))

pub loop-pair-preserved : goal.loop-pair-preserved
loop-pair-preserved c = let l = c.loop-pair in
    let m = c.args.matrix.now in
    let ps = c.args.source.now.pairs.now in
    let i = l.pair-index in
    let x = get_or ps i 0 in
    let h : i < length ps = omega (arith, c.loop-pair-test) in (
      simp length-set l.invariant.0,
      ap (set l.matrix (x / 64)) c.flip_column.ensures
          ∙ ap (λ (y : List ℕ). set y (x / 64) (word_of 64 (λ d. differs (at y (x / 64) d) (eqb d (x % 64))))) l.invariant.1
          ∙ flip_turn m ps i c.args.source.now.sorted h (omega (arith, c.args.source.now.below i h, c.requires)),
    )

pub returns : goal.returns
returns c = let l = c.loop-pair in
    let a = c.args in
    let m = a.matrix.now in
    let ps = a.source.now.pairs.now in
    let e : l.pair-index ≡ length ps = omega arith in
    l.invariant.1 ∙ ap (λ (x : ℕ). matrix_of (length m) (flipped_to m ps x)) e ∙ flip_end m ps
