-- `table_listings::extraction::take_rest` meets its contract. Assumes nothing.
use Prim.Native.Nat.{◌^◌}
use native.Mathlib.Omega.{arith}
use Rattle.tables.proofs.Extract.{placed_in, onward_empty, onward_full}
use Rattle.table_listings.proofs.extraction.take_rest.Goals.{Then-x}
use Rattle.table_listings.proofs.extraction.take_rest.Goals as goal
use Rattle.table_listings.proofs.extraction.take_rest.Goals.{then-x, else-x}

pub loop-i-preserved : goal.loop-i-preserved
loop-i-preserved c = let t = c.args.table in
    let k = c.loop-i in
    elim c.if-x.branch [
      | then-x w ↦ rw (w.out-is, w.next-is) (onward_full t.slots.now c.args.out.now k.out _ _ k.i k.next k.invariant w.if-x.true
          (placed_in t.slots.now c.args.out.now k.out (2 ^ t.shape.lg) _ _ k.i k.next k.invariant (omega arith) w.if-x.true c.requires.1))
      | else-x w ↦ rw (w.out-is, w.next-is) (onward_empty t.slots.now c.args.out.now k.out _ _ k.i k.next k.invariant w.if-x.false)
    ]
