-- `pair_table::batch::Batch::build_rising` meets its contract. Assumes nothing.
use Rattle.pair_table.proofs.RisingLists.{rising_start, rising_turn}
use Rattle.pair_table.proofs.batch.Batch.build_rising.Goals as goal

pub loop-i-init : goal.loop-i-init
loop-i-init c = rising_start _ _ _ _ c.requires

pub loop-i-preserved : goal.loop-i-preserved
loop-i-preserved c = let b = c.args.self in
    let k = c.loop-i in
    let t = c.loop-i-test.true in
    let x = b.fine k.i t in
    rising_turn b.list.now c.args.slots.now k.slots b.shape.lg b.shape.valid k.p k.least k.i c.home.result c.max-q.result k.invariant t b.load x.0 x.1
    c.if-x-least.false c.home.ensures.0 c.max-q.ensures (rw c.size-n.ensures at c.if-n-q.false)
