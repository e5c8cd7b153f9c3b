-- `unions::counting::Matrix::coupons` meets its contract. Assumes nothing.
use mathlib.Core.Path.{◌≡◌, ◌∙◌, ap, sym}
use Prim.Native.Nat.{ℕ}
use native.Mathlib.Omega.{arith}
use lib.Count.{ones-le}
use lib.ListN.{length, get_or}
use Rattle.matrices.proofs.Counting.{counted, counted_none, counted_more, counted_all}
use Rattle.unions.proofs.matrix.Matrix.coupons.Goals as goal

pub loop-word-init : goal.loop-word-init
loop-word-init c = (sym (counted_none c.args.self.words.now), omega arith)

pub loop-word-preserved : goal.loop-word-preserved
loop-word-preserved c = let l = c.loop-word in
    let m = c.args.self.words.now in
    let h = c.args.self.fits l.word-index in (
      omega (arith, c.from-sum.ensures, counted_more m l.word-index h, l.invariant.0),
      omega (arith, c.from-sum.ensures, ones-le 64 (get_or m l.word-index 0) h),
    )

pub returns : goal.returns
returns c = let l = c.loop-word in
    let m = c.args.self.words.now in
    let e : l.word-index ≡ length m = omega arith in
    l.invariant.0 ∙ ap (λ (x : ℕ). counted m x) e ∙ counted_all m
