-- `pair_table::item::Item::locate` meets its contract. Assumes nothing.
use Rattle.tables.proofs.Finger.{resume}
use Rattle.pair_table.proofs.item.Item.locate.Goals as goal

pub returns-then-row-self : goal.returns-then-row-self
returns-then-row-self c = let i = c.args.self in
    let r = c.args.row in
    let d = c.dist in
    let there = rw c.home-home.ensures.0 at d.ensures.1 in (
      resume c.args.slots.now i.shape.lg i.shape.valid _ i.value r.end r.len r.top d.result c.requires.lawful i.small i.full c.requires.row.1 there c.if-dist-row.true c.if-row-self.true
          c.seek.result c.seek.ensures.0,
      c.seek.ensures.1,
    )
