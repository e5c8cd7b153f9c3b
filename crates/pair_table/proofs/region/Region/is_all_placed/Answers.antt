-- `pair_table::region::Region::is_all_placed` meets its contract. Assumes nothing.
use mathlib.Core.Path.{refl}
use Prim.Native.Nat.{◌^◌}
use native.Mathlib.Omega.{arith}
use Rattle.tables.specs.Shapes.{RunUp}
use Rattle.tables.proofs.Laws.{placed_more}
use Rattle.tables.proofs.Paths.{run_none, run_more}
use Rattle.pair_table.proofs.region.Region.is_all_placed.Goals as goal
use Rattle.pair_table.proofs.region.Region.is_all_placed.Goals.{then-x, else-x+else-not-is_placed}

pub loop-p-preserved : goal.loop-p-preserved
loop-p-preserved c =
    let r = c.args.self in
    let s = r.slots.now in
    let k = c.loop-p in
    let u : RunUp s (2 ^ r.shape.lg) k.p k.row.len k.row.top = k.invariant.3 (omega arith) in
    elim c.if-x.branch [
      | then-x w ↦ rw w.row-is (refl, omega arith, placed_more s _ _ _ k.invariant.2 (λ f. absurd (f w.if-x.true)), λ h. run_none s _ _ _ h)
      | else-x+else-not-is_placed w ↦ rw w.row-is (
        refl,
        omega (arith, k.invariant.1),
        placed_more s _ _ _ k.invariant.2 (λ f. rw k.invariant.0 at (w.is_placed.ensures.holds w.if-not-is_placed.false)),
        λ h. run_more s _ _ _ _ _ u (omega arith) w.if-x.false (omega arith) h,
      )
    ]
