-- `unions::rows::Rows::merge_stretch` meets its contract. Assumes nothing.
use mathlib.Core.Path.{◌≡◌, refl, sym, ap, ◌∙◌, subst}
use mathlib.Core.Bool.{◌||◌}
use mathlib.Core.List.{List}
use Prim.Native.Nat.{ℕ, ◌+◌, ◌-◌, ◌%◌, ◌<◌}
use native.Mathlib.Omega.{arith}
use lib.ListN.{set}
use Rattle.laws.specs.Columns.{has, word_of}
use Rattle.matrices.specs.Matrix.{at}
use Rattle.unions.specs.Steps.{Stretched}
use Rattle.unions.proofs.Stretches.{falls_next, stretch_turn}
use Rattle.unions.proofs.rows.Rows.merge_stretch.Goals as goal

-- the row is below 2^lg

pub loop-r-preserved : goal.loop-r-preserved
loop-r-preserved c = let l = c.loop-r in
    let a = c.args in
    let w = a.window.now in
    let k = a.self.now.size.k in
    let o = a.offset.column in
    let t = c.row_in-first.result + (l.r - a.from) in
    let e : a.from + (l.r - a.from) ≡ l.r = omega (arith, l.auto.r) in
    let h : a.from % k + (l.r - a.from) < k = omega (arith, c.requires.3, c.loop-r-test) in
    let falls : t ≡ l.r % k = ap (λ (x : ℕ). x + (l.r - a.from)) c.row_in-first.ensures.0 ∙ sym (falls_next k a.from (l.r - a.from) h) ∙ ap (λ (x : ℕ). x % k) e in (
      subst (λ (x : List ℕ). Stretched k o w a.from (l.r + 1) a.self.now.words.now x)
          (sym
          (ap (set l.self.words.now t) c.or_words.ensures
          ∙ ap (λ (x : ℕ). set l.self.words.now t (word_of 64 (λ d. at l.self.words.now t d || has x d))) c.join.ensures))
          (stretch_turn k o w a.from a.self.now.words.now (omega (arith, a.self.now.size.least)) l.r t l.self.words.now a.self.now.within l.auto.r falls l.invariant.0),
      (refl, l.invariant.1.1, l.invariant.1.2),
    )
