-- `pair_table::batch::Batch::store` meets its contract. Assumes nothing.
use mathlib.Core.Path.{refl}
use native.Mathlib.Omega.{arith}
use Rattle.pair_table.proofs.StoringLists.{batch_buildable, base, store_twice, store_whole}
use Rattle.pair_table.proofs.batch.Batch.store.Goals as goal

pub build_into-requires : goal.build_into-requires
build_into-requires c = let b = c.args.self in
    base b.shape.valid b.list.now c.args.region.now c.args.spare.now b.shape.lg (batch_buildable b) c.requires.0 b.shape.lg_most b.shape.bits_least c.requires.1 c.wipe.new.slots c.wipe.ensures

pub returns-in-Some : goal.returns-in-Some
returns-in-Some c = let b = c.args.self in
    let w = c.wipe in
    let stored = c.in-Some.ensures in
    rw c.wipe-in-Some.ensures (store_twice b.shape.valid b.list.now c.args.region.now c.args.spare.now b.shape.lg (batch_buildable b) c.requires.0 b.shape.lg_most b.shape.bits_least c.requires.1
    w.new.slots c.build_into.new.slots c.wipe-2.new.slots c.in-Some.place _ w.ensures stored.1 stored.0 refl c.wipe-2.ensures)

pub returns : goal.returns
returns c = let b = c.args.self in
    let w = c.wipe in
    let stored = c.in_default.ensures in
    store_whole b.shape.valid b.list.now c.args.region.now c.args.spare.now b.shape.lg (batch_buildable b) c.requires.0 b.shape.lg_most b.shape.bits_least c.requires.1
    w.new.slots c.build_into.new.slots c.wipe-2.new.slots _ _ w.ensures stored (omega arith) (cc) c.wipe-2.ensures
