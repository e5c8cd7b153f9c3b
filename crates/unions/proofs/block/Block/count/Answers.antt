-- `unions::block::Block::count` meets its contract. Assumes nothing.
use mathlib.Core.Path.{sym, ap, ap₂, ◌∙◌}
use Prim.Native.Nat.{◌+◌}
use native.Mathlib.Omega.{arith}
use lib.Count.{ones, ones-le}
use lib.ListN.{length}
use Rattle.matrices.specs.Parts.{windowed}
use Rattle.unions.proofs.Blocks.{from_few, from_next, from_none}
use Rattle.unions.proofs.block.Block.count.Goals as goal

pub loop-j-init : goal.loop-j-init
loop-j-init c = let a = c.args in
    let wide = windowed a.self.cut.shape.flavor in
    let o = a.self.cut.shape.offset.column in
    let m = a.self.cut.words.now in
    sym (ap length (from_none wide o m a.self.first))

pub overflow_add-count : goal.overflow_add-count
overflow_add-count c = let l = c.loop-j in
    let a = c.args in
    let wide = windowed a.self.cut.shape.flavor in
    let o = a.self.cut.shape.offset.column in
    let m = a.self.cut.words.now in
    omega (arith, c.from-count.ensures, ones-le 64 c.surprises.result (omega arith), l.invariant, from_few wide o m a.self.first l.j, c.loop-j-test)

pub loop-j-preserved : goal.loop-j-preserved
loop-j-preserved c = let l = c.loop-j in
    let a = c.args in
    let wide = windowed a.self.cut.shape.flavor in
    let o = a.self.cut.shape.offset.column in
    let m = a.self.cut.words.now in
    ap₂ ◌+◌ l.invariant (c.from-count.ensures ∙ ap ones c.surprises.ensures) ∙ sym (from_next wide o m a.self.first l.j (a.self.cut.fits (a.self.first + l.j)))
