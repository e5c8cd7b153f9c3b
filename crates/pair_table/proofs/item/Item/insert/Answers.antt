-- `pair_table::item::Item::insert` meets its contract. Assumes nothing.
use mathlib.Core.Path.{sym, ◌∙◌}
use Rattle.pair_table.proofs.Inserting.{insert_there, insert_fits, insert_grows}
use Rattle.pair_table.proofs.item.Item.insert.Goals as goal

pub returns-then-region-at : goal.returns-then-region-at
returns-then-region-at c = let a = c.args in
    let i = c.args.self in
    let k = c.lookup-at in
    insert_there a.region.now a.spare.now i.shape.lg i.shape.valid a.items i.value k.result c.requires.0 c.requires.1 i.small k.ensures.0 k.ensures.1 i.full c.if-region-at.true

pub returns-then-fit : goal.returns-then-fit
returns-then-fit c = let a = c.args in
    let i = c.args.self in
    let k = c.lookup-at in
    insert_fits a.region.now a.spare.now i.shape.lg i.shape.valid a.items i.value k.result c.requires.0 c.requires.1 i.small k.ensures.0 k.ensures.1 i.full
    c.if-region-at.false (sym c.fit.ensures ∙ c.if-fit.true) c.wipe.new.slots _ (cc) c.wipe.ensures

pub returns : goal.returns
returns c = let a = c.args in
    let i = c.args.self in
    let k = c.lookup-at in
    let g = c.grow in
    insert_grows a.region.now a.spare.now i.shape.lg i.shape.valid a.items i.value k.result c.requires.0 c.requires.1 i.small k.ensures.0 k.ensures.1 i.full
    c.if-region-at.false (sym c.fit.ensures ∙ c.if-fit.false) g.new.region g.new.spare g.result g.ensures
