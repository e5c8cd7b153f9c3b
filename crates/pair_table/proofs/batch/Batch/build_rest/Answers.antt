-- `pair_table::batch::Batch::build_rest` meets its contract. Assumes nothing.
use mathlib.Core.Path.{◌≡◌}
use Prim.Native.Nat.{◌+◌}
use lib.ListN.{length}
use native.Mathlib.Omega.{arith}
use Rattle.tables.specs.Changes.{blank}
use Rattle.tables.proofs.Finger.{last, stay, move}
use Rattle.pair_table.proofs.RisingLists.{goes_on}
use Rattle.pair_table.proofs.batch.Batch.build_rest.Goals as goal
use Rattle.pair_table.proofs.batch.Batch.build_rest.Goals.{then-row-x, else-row-x}

pub loop-i-init : goal.loop-i-init
loop-i-init c = goes_on _ _ _ _ _ (c.args.most + 1) c.args.most _ c.requires (omega arith)

pub loop-i-preserved : goal.loop-i-preserved
loop-i-preserved c =
    let b = c.args.self in
    let k = c.loop-i in
    let q = c.locate-q in
    let t = c.loop-i-test.true in
    let x = b.fine k.i t in
    let new = c.if-slots-q.false in
    elim c.if-row-x.branch [
      | then-row-x w ↦ rw (w.row-is, w.step.ensures.0)
          (move b.list.now (blank c.args.slots.now) k.slots b.shape.lg b.shape.valid k.row.end k.row.len k.row.top k.i q.result k.invariant t b.load x.0 x.1 q.ensures.0 q.ensures.1 new
          w.dist.result w.if-row-x.true (rw w.home.ensures.0 at w.home.ensures.1) w.dist.ensures.0 (rw w.home.ensures.0 at w.dist.ensures.1))
      | else-row-x w ↦ rw w.row-is
          (stay b.list.now (blank c.args.slots.now) k.slots b.shape.lg b.shape.valid k.row.end k.row.len k.row.top k.i q.result k.invariant t b.load x.0 x.1 q.ensures.0 q.ensures.1 new w.if-row-x.false)
    ]

pub returns : goal.returns
returns c =
    let end : c.loop-i.i ≡ length c.args.self.list.now = omega (arith, c.loop-i.invariant.within) in
    rw end at (last _ _ _ _ _ _ _ _ _ c.loop-i.invariant c.loop-i-test.false)
