-- `unions::merging::Judged::early_pairs` meets its contract. Assumes nothing.
use mathlib.Core.Path.{◌≡◌, sym, subst}
use Prim.Native.Nat.{ℕ, ◌+◌, ◌<◌}
use native.Mathlib.Omega.{arith}
use lib.ListN.{length}
use Rattle.unions.proofs.EarlyPairs.{Taken, take_start, take_turn, take_end}
use Rattle.unions.proofs.judged.Judged.early_pairs.Goals as goal

pub loop-i-init : goal.loop-i-init
loop-i-init c = let a = c.args in (omega arith, take_start a.self.now.shape.offset.column a.self.now.pairs.now a.row a.start c.requires.2)

pub returns-then-end-from : goal.returns-then-end-from
returns-then-end-from c = let l = c.loop-i in
    let a = c.args in
    take_end a.self.now.shape.offset.column a.self.now.pairs.now a.row l.i l.word (a.self.now.sorted) (λ h. omega (arith, c.if-end-from.true, c.from.ensures, l.invariant.0)) l.invariant.1

pub loop-i-preserved : goal.loop-i-preserved
loop-i-preserved c = let l = c.loop-i in
    let a = c.args in
    let ps = a.self.now.pairs.now in
    let o = a.self.now.shape.offset.column in
    let h : l.i < length ps = omega (arith, c.loop-i-test) in (
      l.invariant.0,
      subst (Taken o ps a.row (l.i + 1)) (sym c.with_column-word.ensures)
          (take_turn o ps a.row l.i l.word (omega (arith, a.self.now.shape.offset.most)) h (c.requires.1.none l.i l.auto.i h) (omega (arith, c.if-end-from.false, c.from.ensures, l.invariant.0)) l.invariant.1),
    )

pub returns : goal.returns
returns c = let l = c.loop-i in
    let a = c.args in
    let e : l.i ≡ length a.self.now.pairs.now = omega (arith, c.loop-i-test, l.auto.i-end, c.requires.2.within) in
    take_end a.self.now.shape.offset.column a.self.now.pairs.now a.row (length a.self.now.pairs.now) l.word (a.self.now.sorted) (λ h. absurd (omega arith)) (subst (λ (x : ℕ). Taken a.self.now.shape.offset.column a.self.now.pairs.now a.row x l.word) e l.invariant.1)
