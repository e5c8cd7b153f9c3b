-- `unions::judging::count_window` meets its contract. Assumes nothing.
use mathlib.Core.Path.{◌≡◌, ap, ap₂, sym, ◌∙◌}
use Prim.Native.Nat.{ℕ, ◌+◌, ◌*◌}
use native.Mathlib.Omega.{arith}
use lib.Count.{ones}
use lib.ListN.{get_or}
use Rattle.laws.specs.Below.{sum_below}
use Rattle.laws.proofs.Sums.{sum_split}
use Rattle.matrices.proofs.Counting.{sum_none}
use Rattle.unions.proofs.judging.count_window.Goals as goal

pub loop-block-init : goal.loop-block-init
loop-block-init c = (sym (sum_none (λ r. ones (get_or c.args.window.now r 0))), omega arith)

pub loop-block-preserved : goal.loop-block-preserved
loop-block-preserved c = let l = c.loop-block in
    let f : ℕ → ℕ = λ r. ones (get_or c.args.window.now r 0) in
    let e : 8 * l.block + 8 ≡ 8 * (l.block + 1) = omega arith in (
      ap₂ ◌+◌ l.invariant.0 c.count_eight-sum.ensures.0 ∙ sym (sum_split (8 * l.block) 8 f) ∙ ap (λ (n : ℕ). sum_below n f) e,
      omega (arith, l.invariant.1, c.count_eight-sum.ensures.1),
    )
