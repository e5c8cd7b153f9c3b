-- `unions::splitting::write_windows` meets its contract. Assumes nothing.
use mathlib.Core.Path.{ap₂, ◌∙◌}
use mathlib.Core.List.{List}
use Prim.Native.Nat.{ℕ, ◌<◌}
use native.Mathlib.Omega.{arith}
use lib.ListN.{length, set, length-set}
use Rattle.matrices.proofs.SplitTurn.{window_turn}
use Rattle.unions.proofs.splitting.write_windows.Goals as goal

pub loop-r-preserved : goal.loop-r-preserved
loop-r-preserved c = let l = c.loop-r in
    let a = c.args in
    let g : l.r < length a.matrix.now = omega (arith, c.loop-r-test) in (
      simp length-set l.invariant.0,
      ap₂ (λ (x : List ℕ) (w : ℕ). set x l.r w) l.invariant.1 c.window_of.ensures ∙ window_turn a.offset.column a.matrix.now a.window.now c.requires l.r g,
    )
