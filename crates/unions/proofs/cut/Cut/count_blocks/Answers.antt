-- `unions::cut::Cut::count_blocks` meets its contract. Assumes nothing.
use mathlib.Core.Path.{sym, ap, ap₂, ◌∙◌}
use Prim.Native.Nat.{◌+◌}
use native.Mathlib.Omega.{arith}
use lib.ListN.{length, get_or, length-append}
use Rattle.matrices.specs.Parts.{windowed}
use Rattle.unions.specs.Steps.{pairs_from, block_pairs}
use Rattle.unions.proofs.Blocks.{from_few, blocks_none, blocks_more, blocks_few}
use Rattle.unions.proofs.cut.Cut.count_blocks.Goals as goal

pub loop-r-init : goal.loop-r-init
loop-r-init c = let a = c.args in
    let wide = windowed a.self.shape.flavor in
    let o = a.self.shape.offset.column in
    let m = a.self.words.now in
    sym (ap length (blocks_none wide o m a.found.now))

pub overflow_add-count : goal.overflow_add-count
overflow_add-count c = let l = c.loop-r in
    let a = c.args in
    let wide = windowed a.self.shape.flavor in
    let o = a.self.shape.offset.column in
    let m = a.self.words.now in
    let found = a.found.now in
    omega (
      arith,
      l.invariant,
      blocks_few wide o m found l.r-index,
      c.count-count.ensures,
      from_few wide o m (get_or found l.r-index 0) 8,
      c.requires.0,
      c.loop-r-test,
    )

pub loop-r-preserved : goal.loop-r-preserved
loop-r-preserved c = let l = c.loop-r in
    let a = c.args in
    let wide = windowed a.self.shape.flavor in
    let o = a.self.shape.offset.column in
    let m = a.self.words.now in
    let found = a.found.now in
    let i = l.r-index in
    ap₂ ◌+◌ l.invariant c.count-count.ensures
    ∙ sym (ap length (blocks_more wide o m found i) ∙ length-append (block_pairs wide o m found i) (pairs_from wide o m (get_or found i 0) 8))
