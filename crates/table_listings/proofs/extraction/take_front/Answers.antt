-- `table_listings::extraction::take_front` meets its contract. Assumes nothing.
use Prim.Native.Nat.{◌-◌, ◌^◌, ◌≤◌, ◌<◌}
use native.Mathlib.Omega.{arith}
use Rattle.std.proofs.lemmas.Nat.{one_shl}
use lib.ListN.{length}
use Rattle.tables.proofs.Extract.{apart, part_low, part_high, part_none}
use Rattle.table_listings.proofs.Listed.{lawful_table}
use Rattle.table_listings.proofs.extraction.take_front.Goals.{Else-x}
use Rattle.table_listings.proofs.extraction.take_front.Goals as goal
use Rattle.table_listings.proofs.extraction.take_front.Goals.{then-half-x, else-half-x}

-- a place is left for an item that is not written yet
gapped : (c : Else-x) → c.loop-slot.fore < c.loop-slot.aft
gapped c = let t = c.args.table in
    let k = c.loop-slot in
    apart t.slots.now c.args.out.now k.out (2 ^ t.shape.lg) t.shape.valid t.items k.slot k.fore k.aft k.invariant.1 (lawful_table t).count c.requires (omega arith) c.if-x.false

pub loop-slot-init : goal.loop-slot-init
loop-slot-init c = (omega arith, part_none _ _ _ _ _)

pub overflow_sub-aft : goal.overflow_sub-aft
overflow_sub-aft c = omega (arith, gapped (goal.at.overflow_sub-aft c).Else-x)

pub bounds-out-aft : goal.bounds-out-aft
bounds-out-aft c = omega (arith, gapped (goal.at.bounds-out-aft c).Else-x, c.loop-slot.invariant.0)

pub bounds-out-fore : goal.bounds-out-fore
bounds-out-fore c = omega (arith, gapped (goal.at.bounds-out-fore c).Else-x, c.loop-slot.invariant.0)

pub loop-slot-preserved : goal.loop-slot-preserved
loop-slot-preserved c = let t = c.args.table in
    let k = c.loop-slot in
    let count = (lawful_table t).count in
    let h : k.slot < 2 ^ t.shape.lg = omega arith in
    let d = c.if-x.false in
    let half = one_shl (t.shape.valid - 1) 32 (omega arith) in
    let room : k.aft ≤ length c.args.out.now = omega (arith, k.invariant.0) in
    elim c.if-half-x.branch [
      | then-half-x w ↦ rw (w.out-is, w.fore-is, w.aft-is) (omega (arith, k.invariant.0), part_high t.slots.now c.args.out.now k.out (2 ^ t.shape.lg) t.shape.valid t.items k.slot k.fore k.aft k.invariant.1 count c.requires h d (rw half at w.if-half-x.true) room)
      | else-half-x w ↦ rw (w.out-is, w.fore-is, w.aft-is) (k.invariant.0, part_low t.slots.now c.args.out.now k.out (2 ^ t.shape.lg) t.shape.valid t.items k.slot k.fore k.aft k.invariant.1 count c.requires h d (rw half at w.if-half-x.false) room)
    ]
