-- `books::marks::spread` meets its contract. Assumes nothing.
use native.Mathlib.Omega.{arith}
use lib.Pow.{pow_mono}
use Rattle.laws.proofs.Shifts.{one_shl}
use Rattle.books.proofs.Spreading.{spreading_turn, spreading_end}
use Rattle.books.proofs.marks.spread.Goals as goal

pub widen-requires : goal.widen-requires
widen-requires c = omega (arith, one_shl c.loop-d.d (omega arith), pow_mono {i = c.loop-d.d} {j = 5} (omega arith))

pub loop-d-preserved : goal.loop-d-preserved
loop-d-preserved c = spreading_turn c.args.marks.now c.loop-d.marks c.widen.new.marks c.loop-d.d _ (one_shl c.loop-d.d (omega arith)) c.widen.ensures c.loop-d.invariant

pub returns : goal.returns
returns c = spreading_end c.args.marks.now c.loop-d.marks c.loop-d.d (omega arith) c.loop-d.invariant
