-- `unions::block::Block::any_surprise` meets its contract. Assumes nothing.
use mathlib.Core.Path.{◌≡◌, subst}
use Prim.Native.Nat.{ℕ, ◌+◌}
use native.Mathlib.Omega.{arith}
use Rattle.matrices.specs.Parts.{windowed}
use Rattle.unions.specs.Steps.{QuietIf}
use Rattle.unions.proofs.QuietRows.{quiet_row, quiet_both}
use Rattle.unions.proofs.block.Block.any_surprise.Goals as goal

pub loop-j-preserved : goal.loop-j-preserved
loop-j-preserved c = let l = c.loop-j in
    let a = c.args in
    let wide = windowed a.self.cut.shape.flavor in
    let o = a.self.cut.shape.offset.column in
    let m = a.self.cut.words.now in
    let s = c.surprises-all in
    let e : a.self.first + l.j + 1 ≡ a.self.first + (l.j + 1) = omega arith in
    quiet_both wide o m l.all s.result a.self.first (a.self.first + l.j) (a.self.first + (l.j + 1)) l.invariant
    (subst (λ (x : ℕ). QuietIf s.result wide o m (a.self.first + l.j) x) e (quiet_row wide o m s.result (a.self.first + l.j) s.ensures))
