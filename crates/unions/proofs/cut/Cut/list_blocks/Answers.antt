-- `unions::cut::Cut::list_blocks` meets its contract. Assumes nothing.
use mathlib.Core.Path.{◌≡◌, sym, ap, ◌∙◌, subst}
use mathlib.Core.List.{List}
use Prim.Native.Nat.{ℕ, ◌+◌, ◌-◌}
use native.Mathlib.Omega.{arith}
use lib.ListN.{length, get_or, length-append}
use Rattle.matrices.specs.Parts.{windowed}
use Rattle.unions.specs.Steps.{Added, pairs_from, block_pairs}
use Rattle.unions.proofs.Adding.{added_none, added_both}
use Rattle.unions.proofs.Blocks.{blocks_none, blocks_more, blocks_most}
use Rattle.unions.proofs.cut.Cut.list_blocks.Goals as goal

pub loop-r-init : goal.loop-r-init
loop-r-init c = let a = c.args in
    let wide = windowed a.self.shape.flavor in
    let o = a.self.shape.offset.column in
    let m = a.self.words.now in (
      omega arith,
      subst (λ (l : List ℕ). Added l a.before a.out.now a.before a.out.now) (sym (blocks_none wide o m a.found.now)) (added_none a.before a.out.now),
    )

pub list-all-requires : goal.list-all-requires
list-all-requires c = let l = c.loop-r in
    let a = c.args in
    let wide = windowed a.self.shape.flavor in
    let o = a.self.shape.offset.column in
    let m = a.self.words.now in
    let found = a.found.now in
    let i = l.r-index in
    let d = length found - (i + 1) in
    let e : i + 1 + d ≡ length found = omega (arith, c.loop-r-test) in
    omega (
      arith,
      l.invariant.0,
      l.invariant.1.count,
      ap length (blocks_more wide o m found i),
      length-append (block_pairs wide o m found i) (pairs_from wide o m (get_or found i 0) 8),
      blocks_most wide o m found (i + 1) d,
      ap (λ (n : ℕ). length (block_pairs wide o m found n)) e,
      c.requires.1,
    )

pub loop-r-preserved : goal.loop-r-preserved
loop-r-preserved c = let w = c.list-all in
    let l = c.loop-r in
    let a = c.args in
    let wide = windowed a.self.shape.flavor in
    let o = a.self.shape.offset.column in
    let m = a.self.words.now in
    let found = a.found.now in
    let i = l.r-index in (
      w.auto.out ∙ l.invariant.0,
      subst (λ (x : List ℕ). Added x a.before a.out.now w.result w.new.out) (sym (blocks_more wide o m found i))
          (added_both (block_pairs wide o m found i) (pairs_from wide o m (get_or found i 0) 8) a.before l.all w.result a.out.now l.out w.new.out l.invariant.1 w.ensures),
    )
