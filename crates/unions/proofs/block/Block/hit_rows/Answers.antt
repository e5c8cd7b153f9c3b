-- `unions::block::Block::hit_rows` meets its contract. Assumes nothing.
use mathlib.Core.Path.{◌≡◌, sym, ap, ap₂, ◌∙◌}
use mathlib.Core.Bool.{not}
use Prim.Native.Nat.{ℕ, ◌+◌, ◌*◌, ◌%◌, ◌^◌, ◌≤◌}
use native.Mathlib.Nat.{mul-le-mul_right}
use native.Mathlib.Omega.{arith}
use lib.Dec.{eqb}
use lib.Pow.{pow_mono, shl_exact}
use Rattle.laws.specs.Below.{one}
use Rattle.laws.proofs.Words.{word_of_zero, word_of_more, word_of_lt}
use Rattle.matrices.specs.Parts.{windowed}
use Rattle.unions.proofs.Blocks.{hit}
use Rattle.unions.proofs.block.Block.hit_rows.Goals.{After-one_if}
use Rattle.unions.proofs.block.Block.hit_rows.Goals as goal

placed : (c : After-one_if) → c.one_if.result * 2 ^ c.loop-j.j % 2 ^ 64 ≡ c.one_if.result * 2 ^ c.loop-j.j
placed c = shl_exact 1 c.loop-j.j 64 (omega (arith, c.one_if.ensures.1)) (omega (arith, c.loop-j-test))

pub loop-j-init : goal.loop-j-init
loop-j-init c = sym (word_of_zero _)

pub overflow_add-hits : goal.overflow_add-hits
overflow_add-hits c = let l = c.loop-j in
    let a = c.args in
    let wide = windowed a.self.cut.shape.flavor in
    let o = a.self.cut.shape.offset.column in
    let m = a.self.cut.words.now in
    let p : 2 ^ l.j ≤ 2 ^ 8 = pow_mono {i = l.j} {j = 8} (omega (arith, c.loop-j-test)) in
    let q : c.one_if.result * 2 ^ l.j ≤ 1 * 2 ^ l.j = mul-le-mul_right (2 ^ l.j) c.one_if.ensures.1 in
    omega (arith, l.invariant, word_of_lt l.j (hit wide o m a.self.first), placed (goal.at.overflow_add-hits c).After-one_if)

pub loop-j-preserved : goal.loop-j-preserved
loop-j-preserved c = let l = c.loop-j in
    let a = c.args in
    let wide = windowed a.self.cut.shape.flavor in
    let o = a.self.cut.shape.offset.column in
    let m = a.self.cut.words.now in
    let is = c.one_if.ensures.0 ∙ ap (λ (w : ℕ). one (not (eqb w 0))) c.surprises.ensures in
    ap₂ ◌+◌ l.invariant (placed (goal.at.loop-j-preserved c).After-one_if ∙ ap (λ (x : ℕ). x * 2 ^ l.j) is) ∙ sym (word_of_more l.j (hit wide o m a.self.first))
