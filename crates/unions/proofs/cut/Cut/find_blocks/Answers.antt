-- `unions::cut::Cut::find_blocks` meets its contract. Assumes nothing.
use mathlib.Core.Path.{◌≡◌, sym, subst}
use Prim.Native.Nat.{ℕ, ◌+◌}
use native.Mathlib.Omega.{arith}
use lib.ListN.{set, length-set}
use Rattle.matrices.specs.Parts.{windowed}
use Rattle.unions.specs.Steps.{Found}
use Rattle.unions.proofs.Blocks.{found_start, found_turn}
use Rattle.unions.proofs.cut.Cut.find_blocks.Goals.{After-one_if}
use Rattle.unions.proofs.cut.Cut.find_blocks.Goals as goal

-- the block just noted is among the blocks found, if it holds any
noted : (c : After-one_if) → Found (windowed c.args.self.shape.flavor) c.args.self.shape.offset.column c.args.self.words.now c.args.from (c.loop-r.r + 8) (set c.loop-r.found c.loop-r.n c.loop-r.r) (c.loop-r.n + c.one_if.result)
noted c = let l = c.loop-r in
    let a = c.args in
    let wide = windowed a.self.shape.flavor in
    let o = a.self.shape.offset.column in
    let m = a.self.words.now in
    subst (λ (x : ℕ). Found wide o m a.from (l.r + 8) (set l.found l.n l.r) (l.n + x)) (sym c.one_if.ensures.0)
    (found_turn wide o m a.from l.r l.found l.n l.invariant.4 l.invariant.0 c.any_surprise.result c.any_surprise.ensures
    (omega (arith, l.invariant.4.few, c.loop-r-test, c.requires.1, l.invariant.3)) (omega (arith, l.invariant.2, c.loop-r-test, c.requires.4, c.requires.2)))

pub loop-r-init : goal.loop-r-init
loop-r-init c = let a = c.args in
    let wide = windowed a.self.shape.flavor in
    let o = a.self.shape.offset.column in
    let m = a.self.words.now in
    (omega arith, c.requires.0, c.requires.3, omega arith, found_start wide o m a.from a.found.now)

pub loop-r-preserved : goal.loop-r-preserved
loop-r-preserved c = let l = c.loop-r in (
  omega (arith, l.invariant.0),
  omega (arith, l.invariant.2, c.loop-r-test, c.requires.4),
  omega (arith, l.invariant.2),
  simp length-set l.invariant.3,
  noted (goal.at.loop-r-preserved c).After-one_if,
)

pub returns-2 : goal.returns-2
returns-2 c = let a = c.args in
    let wide = windowed a.self.shape.flavor in
    let o = a.self.shape.offset.column in
    let m = a.self.words.now in
    let e : c.loop-r.r + 8 ≡ a.to = omega (arith, c.loop-r.invariant.2, c.loop-r-test, c.requires.4) in
    subst (λ (x : ℕ). Found wide o m a.from x (set c.loop-r.found c.loop-r.n c.loop-r.r) (c.loop-r.n + c.one_if.result)) e (noted (goal.at.returns-2 c).After-one_if)
