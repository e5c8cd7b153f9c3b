-- `unions::filling::join_rows` meets its contract. Assumes nothing.
use mathlib.Core.Path.{◌≡◌, refl, ap, ap₂, ◌∙◌}
use mathlib.Core.List.{List, []}
use Prim.Native.Nat.{ℕ, ◌<◌}
use native.Mathlib.Omega.{arith}
use lib.ListN.{length, set, length-set}
use Rattle.matrices.specs.Matrix.{matrix_of}
use Rattle.matrices.specs.Source.{expanded}
use Rattle.matrices.proofs.Expanding.{expand_turn, expand_end}
use Rattle.matrices.proofs.Rewriting.{rewritten}
use Rattle.unions.proofs.Flips.{bare_row}
use Rattle.unions.proofs.filling.join_rows.Goals as goal

pub loop-r-preserved : goal.loop-r-preserved
loop-r-preserved c = let l = c.loop-r in
    let a = c.args in
    let m = a.matrix.now in
    let n = length m in
    let o = a.offset.column in
    let h : l.r < n = omega (arith, c.loop-r-test, l.invariant.0) in (
      simp length-set l.invariant.0,
      ap₂ (λ (x : List ℕ) (w : ℕ). set x l.r w) l.invariant.1 c.join.ensures
          ∙ expand_turn m n (expanded o a.window.now []) refl l.r _ h (bare_row o n a.window.now l.r h),
    )

pub returns : goal.returns
returns c = let l = c.loop-r in
    let a = c.args in
    let m = a.matrix.now in
    let all = expanded a.offset.column a.window.now [] in
    let e : l.r ≡ length m = omega (arith, l.invariant.0) in
    l.invariant.1 ∙ ap (rewritten m (matrix_of (length m) all)) e ∙ expand_end m (length m) all refl
