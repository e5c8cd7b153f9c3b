-- `reporting::take` meets its contract. Assumes nothing.
use Prim.Native.Nat.{◌≤◌}
use native.Mathlib.Omega.{arith}
use lib.ListN.{length, drop_of_length-le}
use Rattle.reporting.specs.Machine.{taken_of}
use Rattle.reporting.proofs.Stepping.{taken_turn, taken_end}
use Rattle.reporting.proofs.take.Goals as goal

pub loop-byte-preserved : goal.loop-byte-preserved
loop-byte-preserved c = let a = c.args in
    let l = c.loop-byte in
    taken_turn a.part.now l.byte-index l.after c.step-after.result l.pairs c.step-after.new.pairs (taken_of a.progress a.part.now a.pairs.now)
    (omega arith) l.invariant c.step-after.ensures

pub returns : goal.returns
returns c = let a = c.args in
    let l = c.loop-byte in
    let past : length a.part.now ≤ l.byte-index = omega arith in
    taken_end a.part.now l.byte-index l.after l.pairs (taken_of a.progress a.part.now a.pairs.now) (drop_of_length-le a.part.now past) l.invariant
