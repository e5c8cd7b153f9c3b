-- `pair_table::region::Region::tail_row` meets its contract. Assumes nothing.
use mathlib.Core.Path.{◌≡◌, refl}
use Prim.Native.Nat.{◌-◌, ◌^◌}
use native.Mathlib.Omega.{arith}
use lib.Pow.{pow_pos}
use Rattle.tables.proofs.Paths.{run_tail}
use Rattle.pair_table.proofs.region.Region.tail_row.Goals as goal

pub returns-then-x : goal.returns-then-x
returns-then-x c = let r = c.args.self in
    let k = c.loop-i in
    let e : k.len ≡ 2 ^ r.shape.lg - k.i = omega (arith, k.invariant.0) in
    (refl, omega (arith, k.invariant.0), rw e (run_tail r.slots.now _ k.i _ (omega (arith, k.invariant.0)) (pow_pos r.shape.lg) k.invariant.1))

pub returns : goal.returns
returns c = let r = c.args.self in
    let k = c.loop-i in
    let e : k.len ≡ 2 ^ r.shape.lg - k.i = omega (arith, k.invariant.0) in
    (refl, omega (arith, k.invariant.0), rw e (run_tail r.slots.now _ k.i _ (omega (arith, k.invariant.0)) (pow_pos r.shape.lg) k.invariant.1))
