-- `unions::rows::Rows::merge_pairs` meets its contract. Assumes nothing.
use mathlib.Core.Path.{◌≡◌, refl, ◌∙◌, ap}
use mathlib.Core.Bool.{◌&&◌, ◌||◌}
use mathlib.Core.List.{List}
use Prim.Native.Nat.{ℕ, ◌/◌, ◌%◌}
use native.Mathlib.Omega.{arith}
use lib.Dec.{eqb, leb}
use lib.ListN.{length, get_or, set, length-set}
use Rattle.laws.specs.Columns.{word_of}
use Rattle.numbers.specs.declared.size.SketchSize.{SketchSize}
use Rattle.matrices.specs.Matrix.{at, matrix_of}
use Rattle.unions.specs.Steps.{pairs_set}
use Rattle.matrices.proofs.MergeWhole.{pairs_start, pairs_turn}
use Rattle.unions.proofs.rows.Rows.merge_pairs.Goals as goal

-- the row that is met fits

pub loop-pair-init : goal.loop-pair-init
loop-pair-init c = let s = c.args.self.now in (refl, (pairs_start s.size.k c.args.first s.words.now c.args.pairs.now s.fits, refl, refl))

pub loop-pair-preserved : goal.loop-pair-preserved
loop-pair-preserved c = let l = c.loop-pair in
    let i = l.pair-index in
    let m = c.args.self.now.words.now in
    let ps = c.args.pairs.now in
    let k = c.args.self.now.size.k in
    let first = c.args.first in
    let p = get_or ps i 0 in
    let same : l.self.size.k ≡ k = ap (λ (z : SketchSize). z.k) l.invariant.1.1 in
    let falls : c.row_in-t.result ≡ p / 64 % k = c.row_in-t.ensures.0 ∙ ap (λ (z : ℕ). p / 64 % z) same in (
      simp length-set l.invariant.0,
      (
        ap (set l.self.words.now c.row_in-t.result) c.with_column_from.ensures
            ∙ ap (λ (t : ℕ). set l.self.words.now t (word_of 64 (λ d. at l.self.words.now t d || (leb first d && eqb d (p % 64))))) falls
            ∙ ap (λ (x : List ℕ). set x (p / 64 % k) (word_of 64 (λ d. at x (p / 64 % k) d || (leb first d && eqb d (p % 64))))) l.invariant.1.0
            ∙ pairs_turn k first m ps i (p / 64 % k) refl (omega (arith, falls, c.row_in-t.ensures.1, same, c.args.self.now.within))
            (λ d. at (matrix_of (length m) (pairs_set k first m ps i)) (p / 64 % k) d || (leb first d && eqb d (p % 64))) (λ d h. refl),
        l.invariant.1.1,
        l.invariant.1.2,
      ),
    )
