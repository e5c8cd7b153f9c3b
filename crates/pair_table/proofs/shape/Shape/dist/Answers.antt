-- `pair_table::shape::Shape::dist` meets its contract. Assumes nothing.
use mathlib.Core.Path.{◌≡◌, sym}
use Prim.Native.Nat.{◌-◌, ◌+◌, ◌^◌, ◌<◌}
use native.Mathlib.Omega.{arith}
use Rattle.tables.proofs.Shift.{apart_only}
use Rattle.tables.proofs.Stepping.{steps_ahead, steps_behind}
use Rattle.pair_table.proofs.shape.Shape.dist.Goals as goal

pub returns-then-h-p : goal.returns-then-h-p
returns-then-h-p c = let a = c.args in
    let ahead = steps_ahead (2 ^ a.self.lg) a.h a.p c.requires.1 c.if-h-p.true in
    let below : a.p - a.h < 2 ^ a.self.lg = omega arith in
    (below, ahead, sym (apart_only (2 ^ a.self.lg) a.h a.p (a.p - a.h) c.requires.0 c.requires.1 below ahead))

pub returns-else-h-p : goal.returns-else-h-p
returns-else-h-p c = let a = c.args in
    let n : c.size.result ≡ 2 ^ a.self.lg = c.size.ensures in
    let behind = steps_behind (2 ^ a.self.lg) a.h a.p c.requires.0 c.if-h-p.false in
    let below : 2 ^ a.self.lg - a.h + a.p < 2 ^ a.self.lg = omega arith in
    rw n (below, behind, sym (apart_only (2 ^ a.self.lg) a.h a.p (2 ^ a.self.lg - a.h + a.p) c.requires.0 c.requires.1 below behind))
