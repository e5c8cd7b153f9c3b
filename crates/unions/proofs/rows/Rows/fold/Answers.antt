-- `unions::rows::Rows::fold` meets its contract. Assumes nothing.
use mathlib.Core.Path.{◌≡◌, refl, ◌∙◌, ap}
use mathlib.Core.Logic.{⊎_elim}
use mathlib.Core.Bool.{Bool, false, ◌&&◌, ◌||◌}
use mathlib.Core.List.{List}
use Prim.Native.Nat.{ℕ, ◌%◌, ◌≤◌, ◌<◌}
use borrow.Author.Tests.{le-ltb}
use native.Mathlib.Omega.{arith}
use lib.Dec.{eqb}
use lib.ListN.{length, get_or, set, length-set, get_or-eq_default}
use Rattle.laws.specs.Below.{any_below}
use Rattle.laws.specs.Columns.{word_of}
use Rattle.laws.proofs.Orders.{lt_or_le}
use Rattle.laws.proofs.Words.{word_of_same, word_of_none}
use Rattle.matrices.specs.Matrix.{at, matrix_of}
use Rattle.matrices.specs.Shapes.{folded}
use Rattle.matrices.proofs.Rows.{length_matrix, row_matrix}
use Rattle.matrices.proofs.Folding.{partly, fold_start, fold_turn}
use Rattle.matrices.proofs.MergeWhole.{fold_short}
use Rattle.unions.specs.declared.rows.Rows.{Rows}
use Rattle.unions.proofs.rows.Rows.fold.Goals as goal

-- a folded matrix has no row from k on
folded_rest : (n k : ℕ) (m : List ℕ) (r : ℕ) → k ≤ r → get_or (matrix_of n (folded k m)) r 0 ≡ 0
folded_rest n k m r h =
    ⊎_elim
    (λ (l : r < n).
    row_matrix n (folded k m) r l ∙ word_of_same 64 (folded k m r) (λ c. false) (λ c b. ap (λ (t : Bool). t && any_below (length m) (λ s. eqb (s % k) r && at m s c)) (le-ltb r k h)) ∙ word_of_none 64)
    (λ (l : n ≤ r). get_or-eq_default (matrix_of n (folded k m)) 0 (omega (arith, length_matrix n (folded k m)))) (lt_or_le r n)

-- a fold that has come to the last row
folded_whole : (before : Rows) (k s : ℕ) (now : List ℕ) → now ≡ matrix_of (length before.words.now) (partly k s before.words.now) → s ≡ before.size.k → k ≤ before.size.k
    → now ≡ matrix_of (length before.words.now) (folded k before.words.now)
folded_whole before k s now is end h =
    is ∙ ap (λ (x : ℕ). matrix_of (length before.words.now) (partly k x before.words.now)) end ∙ fold_short before.words.now k before.size.k h before.within before.rest

-- the row that is folded

pub loop-s-init : goal.loop-s-init
loop-s-init c = let a = c.args.self.now in
    (refl, (fold_start a.words.now c.args.size.k (omega (arith, c.requires, a.within)) a.fits, refl, refl))

pub loop-s-preserved : goal.loop-s-preserved
loop-s-preserved c = let l = c.loop-s in
    let m = c.args.self.now.words.now in
    let k = c.args.size.k in
    let s = l.s in (
      simp length-set l.invariant.0,
      (
        ap (λ (w : ℕ). set (set l.self.words.now c.row_in-t.result w) s 0) c.or_words.ensures
            ∙ ap (λ (t : ℕ). set (set l.self.words.now t (word_of 64 (λ d. at l.self.words.now t d || at l.self.words.now s d))) s 0) c.row_in-t.ensures.0
            ∙ ap (λ (x : List ℕ). set (set x (s % k) (word_of 64 (λ d. at x (s % k) d || at x s d))) s 0) l.invariant.1.0
            ∙ fold_turn m k (omega (arith, c.args.size.least)) s l.auto.s (omega (arith, c.loop-s-test, c.args.self.now.within)),
        l.invariant.1.1,
        l.invariant.1.2,
      ),
    )

pub invariant_of-self-2-clause-rest : goal.invariant_of-self-2-clause-rest
invariant_of-self-2-clause-rest c r h = let l = c.loop-s in
    let before = c.args.self.now in
    let whole = folded_whole before c.args.size.k l.s l.self.words.now l.invariant.1.0 (omega (arith, c.loop-s-test, l.auto.s, c.requires)) c.requires in
    ap (λ (x : List ℕ). get_or x r 0) whole ∙ folded_rest (length before.words.now) c.args.size.k before.words.now r h

pub returns : goal.returns
returns c = let l = c.loop-s in (
  folded_whole c.args.self.now c.args.size.k l.s l.self.words.now l.invariant.1.0 (omega (arith, c.loop-s-test, l.auto.s, c.requires)) c.requires,
  refl,
  l.invariant.1.2,
)
