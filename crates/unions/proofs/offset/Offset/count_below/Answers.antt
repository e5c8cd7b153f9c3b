-- `unions::offset::Offset::count_below` meets its contract. Assumes nothing.
use mathlib.Core.Path.{ap, ap₂, sym, ◌∙◌}
use Prim.Native.Nat.{ℕ, ◌+◌, ◌%◌}
use native.Mathlib.Omega.{arith}
use lib.Dec.{ltb}
use lib.ListN.{get_or}
use Rattle.laws.specs.Below.{one}
use Rattle.matrices.proofs.Counting.{sum_none, sum_more}
use Rattle.unions.proofs.offset.Offset.count_below.Goals as goal

pub loop-pair-init : goal.loop-pair-init
loop-pair-init c = let a = c.args in (sym (sum_none (λ j. one (ltb (get_or a.pairs.now j 0 % 64) a.self.column))), omega arith)

pub loop-pair-preserved : goal.loop-pair-preserved
loop-pair-preserved c = let l = c.loop-pair in
    let a = c.args in
    let f : ℕ → ℕ = λ j. one (ltb (get_or a.pairs.now j 0 % 64) a.self.column) in (
      ap₂ ◌+◌ l.invariant.0 (c.one_if-sum.ensures.0 ∙ ap (λ (x : ℕ). one (ltb x a.self.column)) c.from.ensures) ∙ sym (sum_more l.pair-index f),
      omega (arith, c.one_if-sum.ensures.1, l.invariant.1),
    )
