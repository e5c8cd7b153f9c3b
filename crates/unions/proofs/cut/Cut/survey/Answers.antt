-- `unions::cut::Cut::survey` meets its contract. Assumes nothing.
use mathlib.Core.Path.{◌≡◌, refl, sym, ap, ap₂, ◌∙◌}
use Prim.Native.Nat.{ℕ, ◌+◌}
use native.Mathlib.Omega.{arith}
use lib.ListN.{length, length-append}
use Rattle.matrices.specs.Parts.{windowed}
use Rattle.matrices.proofs.SplitTurn.{listed_to, to_none, to_all}
use Rattle.unions.specs.Steps.{block_pairs}
use Rattle.unions.proofs.Blocks.{from_few, listed_found, blocks_taken}
use Rattle.unions.proofs.cut.Cut.survey.Goals.{After-count_blocks-count}
use Rattle.unions.proofs.cut.Cut.survey.Goals as goal

more : (c : After-count_blocks-count) → c.loop-from.count + c.count_blocks-count.result ≡ length (listed_to (windowed c.args.self.shape.flavor) c.args.self.shape.offset.column c.args.self.words.now c.min-to.result)
more c = let l = c.loop-from in
    let e = c.min-to in
    let a = c.args in
    let wide = windowed a.self.shape.flavor in
    let o = a.self.shape.offset.column in
    let m = a.self.words.now in
    let found = c.find_blocks-many.new.found in
    let n = c.find_blocks-many.result in
    let f = c.find_blocks-many.ensures in
    ap₂ ◌+◌ l.invariant.3 (c.count_blocks-count.ensures ∙ ap length (blocks_taken wide o m found n (omega (arith, f.few, e.ensures))))
    ∙ sym (ap length (listed_found wide o m l.from e.result found n (omega (arith, e.ensures, c.loop-from-test)) f) ∙ length-append (listed_to wide o m l.from) (block_pairs wide o m found n))

pub loop-from-init : goal.loop-from-init
loop-from-init c = let a = c.args in
    let wide = windowed a.self.shape.flavor in
    let o = a.self.shape.offset.column in
    let m = a.self.words.now in
    (omega arith, refl, omega arith, sym (ap length (to_none wide o m)))

pub overflow_add-count : goal.overflow_add-count
overflow_add-count c = let a = c.args in
    let wide = windowed a.self.shape.flavor in
    let o = a.self.shape.offset.column in
    let m = a.self.words.now in
    let e = c.min-to in
    omega (arith, more (goal.at.overflow_add-count c).After-count_blocks-count, from_few wide o m 0 e.result, e.ensures, a.self.rows, a.self.shape.size.most)

pub loop-from-preserved : goal.loop-from-preserved
loop-from-preserved c = let a = c.args in
    let wide = windowed a.self.shape.flavor in
    let o = a.self.shape.offset.column in
    let m = a.self.words.now in
    let e : c.min-to.result ≡ c.loop-from.from + 512 = omega (arith, c.min-to.ensures) in (
      omega arith,
      omega (arith, c.loop-from.invariant.1),
      omega arith,
      more (goal.at.loop-from-preserved c).After-count_blocks-count ∙ ap (λ (r : ℕ). length (listed_to wide o m r)) e,
    )

pub returns : goal.returns
returns c = let l = c.loop-from in
    let a = c.args in
    let wide = windowed a.self.shape.flavor in
    let o = a.self.shape.offset.column in
    let m = a.self.words.now in
    let e : l.from ≡ length m = omega (arith, l.invariant.0, c.loop-from-test) in
    l.invariant.3 ∙ ap length (ap (listed_to wide o m) e ∙ to_all wide o m)

pub returns-2 : goal.returns-2
returns-2 c = let a = c.args in
    let wide = windowed a.self.shape.flavor in
    let o = a.self.shape.offset.column in
    let m = a.self.words.now in
    let e : c.min-to.result ≡ length m = omega (arith, c.min-to.ensures) in
    more (goal.at.returns-2 c).After-count_blocks-count ∙ ap length (ap (listed_to wide o m) e ∙ to_all wide o m)
