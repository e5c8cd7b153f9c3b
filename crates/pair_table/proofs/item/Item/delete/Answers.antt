-- `pair_table::item::Item::delete` meets its contract. Assumes nothing.
use mathlib.Core.Path.{sym, ◌∙◌}
use Prim.Native.Nat.{◌≤◌}
use native.Mathlib.Omega.{arith}
use Rattle.pair_table.proofs.Inserting.{wiped}
use Rattle.pair_table.proofs.Deleting.{some_item, out_lawful, delete_done, delete_missing}
use Rattle.pair_table.proofs.item.Item.delete.Goals.{Else-region-at}
use Rattle.pair_table.proofs.item.Item.delete.Goals as goal

-- there is an item to take out
some : (c : Else-region-at) → 1 ≤ c.args.items
some c = let a = c.args in
    let i = c.args.self in
    let k = c.lookup-at in
    some_item a.region.now a.spare.now i.shape.lg i.shape.valid a.items i.value k.result c.requires.0 i.full k.ensures.0 k.ensures.1 c.if-region-at.false

pub returns-then-region-at : goal.returns-then-region-at
returns-then-region-at c = let a = c.args in
    let i = c.args.self in
    let k = c.lookup-at in
    delete_missing a.region.now a.spare.now i.shape.lg i.shape.valid a.items i.value k.result c.requires.0 i.full k.ensures.0 k.ensures.1 i.small c.if-region-at.true

pub overflow_sub-items : goal.overflow_sub-items
overflow_sub-items c = omega (arith, some (goal.at.overflow_sub-items c).Else-region-at)

pub halve-shape-requires : goal.halve-shape-requires
halve-shape-requires c = let a = c.args in
    let i = c.args.self in
    let k = c.lookup-at in
    let t = c.take_out in
    let w = wiped c.wipe.new.slots a.spare.now c.wipe.ensures in (
      t.auto.region ∙ c.requires.1 ∙ sym w.1,
      w.0,
      out_lawful a.region.now a.spare.now i.shape.lg i.shape.valid a.items i.value k.result c.requires.0 i.full k.ensures.0 k.ensures.1 c.if-region-at.false t.new.region t.ensures,
    )

pub overflow_sub-items-2 : goal.overflow_sub-items-2
overflow_sub-items-2 c = omega (arith, some (goal.at.overflow_sub-items-2 c).Else-region-at)

pub returns : goal.returns
returns c = let a = c.args in
    let i = c.args.self in
    let k = c.lookup-at in
    let t = c.take_out in
    let w = c.wipe in
    let r = c.halve-shape in
    delete_done a.region.now a.spare.now i.shape.lg i.shape.valid a.items i.value k.result c.requires.0 i.full k.ensures.0 k.ensures.1 c.if-region-at.false i.small
    r.new.region r.new.spare w.new.slots t.new.region r.result.lg _ (cc) w.ensures t.ensures (r.ensures.0, r.ensures.1, r.ensures.3)
