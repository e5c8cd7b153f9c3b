-- `numbers::formulas::floor_log2`: what its loops keep true, and why they end. Assumes nothing.
use Prim.Native.Nat.{◌-◌}
use Rattle.numbers.proofs.Logs.{Doubled}
use Rattle.numbers.proofs.formulas.floor_log2.Given as goal

abbrev pub invariant-loop-power : goal.invariant-loop-power
invariant-loop-power l = Doubled l.quotient l.bits l.power

abbrev pub decreases-loop-power : goal.decreases-loop-power
decreases-loop-power l = l.quotient - l.power
