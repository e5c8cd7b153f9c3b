-- `numbers::formulas::floor_log2` meets its contract: the power is 2^bits, and below twice the quotient. Assumes nothing.
use mathlib.Core.Path.{◌≡◌}
use Prim.Native.Nat.{suc}
use native.Mathlib.Omega.{arith}
use lib.Pow.{pow_pos}
use Rattle.numbers.specs.Numbers.{floor_log2}
use Rattle.numbers.proofs.Logs.{doubled_start, doubled_turn, doubled_most, doubled_met, doubled_past, log_most}
use Rattle.numbers.proofs.formulas.floor_log2.Goals.{Else-power-quotient}
use Rattle.numbers.proofs.formulas.floor_log2.Goals as goal

-- where the power is not the quotient it is past it
past : (c : Else-power-quotient) → c.loop-power.bits ≡ suc (floor_log2 c.args.quotient)
past c = doubled_past _ c.loop-power.invariant c.requires.1 (omega arith)

pub loop-power-init : goal.loop-power-init
loop-power-init c = doubled_start _ c.requires.0

pub overflow_add-bits : goal.overflow_add-bits
overflow_add-bits c = omega (arith, doubled_most c.loop-power.invariant c.requires.1)

pub overflow_mul-power : goal.overflow_mul-power
overflow_mul-power c = omega arith

pub loop-power-smaller : goal.loop-power-smaller
loop-power-smaller c = omega (arith, pow_pos c.loop-power.bits)

pub loop-power-preserved : goal.loop-power-preserved
loop-power-preserved c = doubled_turn c.loop-power.invariant c.loop-power-test.true

pub returns-then-power-quotient : goal.returns-then-power-quotient
returns-then-power-quotient c = let e = doubled_met c.loop-power.invariant c.requires.1 c.if-power-quotient.true in
    record { value = e; most = omega (arith, log_most c.args.quotient) }

pub overflow_sub-result : goal.overflow_sub-result
overflow_sub-result c = omega (arith, past (goal.at.overflow_sub-result c).Else-power-quotient)

pub returns : goal.returns
returns c = omega (arith, past (goal.at.returns c).Else-power-quotient, log_most c.args.quotient)
