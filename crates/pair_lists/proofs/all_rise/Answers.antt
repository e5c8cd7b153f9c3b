-- `pair_lists::all_rise` meets its contract. Assumes nothing.
use native.Mathlib.Omega.{arith}
use Rattle.std.proofs.Common.{rules}
use Rattle.pair_lists.proofs.RisingPairs.{rising_start, rising_turn, rising_end}
use Rattle.pair_lists.proofs.all_rise.Goals as goal

pub loop-i-init : goal.loop-i-init
loop-i-init c = rising_start _

pub loop-i-preserved : goal.loop-i-preserved
loop-i-preserved c = rising_turn _ c.loop-i.rises _ c.loop-i.i c.loop-i.invariant (λ both. search rules)

pub returns : goal.returns
returns c = rising_end _ c.loop-i.rises c.loop-i.i c.loop-i.invariant (omega arith)
