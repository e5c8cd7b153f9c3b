-- `compression::writer::Writer::put_unary` meets its contract. Assumes nothing.
use native.Mathlib.Omega.{arith}
use mathlib.Core.Path.{subst}
use Prim.Native.Nat.{ℕ, ◌+◌}
use Rattle.laws.proofs.Shifts.{one_shl}
use Rattle.compression.specs.Writing.{PutBy}
use Rattle.compression.proofs.PuttingValues.{zeros_more, zeros_last}
use Rattle.compression.proofs.writer.Writer.put_unary.Goals as goal

pub loop-left-preserved : goal.loop-left-preserved
loop-left-preserved c = let a = c.args in
    let call = c.put-at in (
      omega arith,
      zeros_more a.out.now c.loop-left.out call.new.out a.self c.loop-left.at call.result a.zeros c.loop-left.left c.loop-left.invariant.0 c.loop-left.invariant.1
          (omega arith) call.ensures,
    )

pub returns : goal.returns
returns c = let a = c.args in
    let call = c.put in
    let l = c.loop-left.left in
    zeros_last a.out.now c.loop-left.out call.new.out a.self c.loop-left.at call.result a.zeros l c.loop-left.invariant.0 c.loop-left.invariant.1
    (subst (λ (v : ℕ). PutBy c.loop-left.out call.new.out c.loop-left.at call.result v (l + 1)) (one_shl l (omega arith)) call.ensures)
