-- `pair_table::shape::Shape::halve` meets its contract. Assumes nothing.
use mathlib.Core.Path.{refl, sym, ap, ◌∙◌}
use Prim.Native.Nat.{ℕ, ◌-◌}
use native.Mathlib.Omega.{arith}
use Rattle.pair_table.proofs.Deleting.{halving_begins, halving_stops, halving_least, halving_goes}
use Rattle.pair_table.proofs.shape.Shape.halve.Goals as goal

pub loop-lg-init : goal.loop-lg-init
loop-lg-init c = (refl, refl, halving_begins c.args.region.now c.args.spare.now c.args.self.lg c.args.self.valid c.args.items c.requires.1 c.requires.2)

pub returns-then-size-items : goal.returns-then-size-items
returns-then-size-items c = let a = c.args in
    let k = c.loop-lg in
    let w = halving_stops a.region.now a.spare.now k.region k.spare a.self.lg a.self.valid a.items k.shape.lg k.invariant.2 c.requires.0 (omega (arith, c.size.ensures, c.if-size-items.true)) in
    (w.0, w.1, k.invariant.1, w.2)

pub returns : goal.returns
returns c = let a = c.args in
    let k = c.loop-lg in
    let w = halving_least a.region.now a.spare.now k.region k.spare a.self.lg a.self.valid a.items k.shape.lg k.invariant.2 c.requires.0 (omega (arith, k.invariant.0)) in
    (w.0, w.1, k.invariant.1, w.2)

pub loop-lg-preserved : goal.loop-lg-preserved
loop-lg-preserved c = let a = c.args in
    let k = c.loop-lg in
    let r = c.rebuild in
    let half = c.lawful-half.ensures in
    let same = k.invariant in
    let least = half.0 ∙ ap (λ (n : ℕ). n - 1) (sym same.0) in (
      half.0,
      half.1 ∙ same.1,
      rw least (halving_goes a.region.now a.spare.now k.region k.spare a.self.lg a.self.valid a.items k.shape.lg same.2 c.requires.0 (omega (arith, same.0, c.loop-lg-test.true)) (omega (arith, c.size.ensures, c.if-size-items.false))
          r.new.region r.new.spare (rw (least, half.1, same.1) at r.ensures.0) r.ensures.1),
    )
