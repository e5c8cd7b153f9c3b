-- `unions::cut::Cut::lacks_room` meets its contract. Assumes nothing.
use mathlib.Core.Path.{sym}
use Prim.Native.Nat.{◌*◌, ◌≤◌}
use native.Mathlib.Nat.{mul-le-mul_right}
use native.Mathlib.Omega.{arith}
use borrow.Author.Tests.{le-ltb}
use lib.ListN.{length}
use Rattle.matrices.specs.Parts.{windowed, surprise_pairs}
use Rattle.matrices.proofs.SplitMost.{surprises_most}
use Rattle.matrices.proofs.Undone.{coupons_most}
use Rattle.unions.proofs.cut.Cut.lacks_room.Goals as goal

pub overflow_add-ones : goal.overflow_add-ones
overflow_add-ones c = let a = c.args in
    let wide = windowed a.self.shape.flavor in
    let o = a.self.shape.offset.column in
    let m = a.self.words.now in
    let cells : o * length m ≤ 61 * length m = mul-le-mul_right (length m) a.self.shape.offset.most in
    omega (arith, cells, a.self.rows, a.self.shape.size.most, c.requires, coupons_most m)

pub returns-then-ones-self : goal.returns-then-ones-self
returns-then-ones-self c = let a = c.args in
    let wide = windowed a.self.shape.flavor in
    let o = a.self.shape.offset.column in
    let m = a.self.words.now in
    let most = surprises_most wide o m (omega (arith, a.self.shape.offset.most)) in
    sym (le-ltb a.room (length (surprise_pairs wide o m)) (omega (arith, c.requires, most, c.if-ones-self.true)))
