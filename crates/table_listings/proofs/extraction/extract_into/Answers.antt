-- `table_listings::extraction::extract_into` meets its contract. Assumes nothing.
use Prim.Native.Nat.{◌^◌}
use native.Mathlib.Omega.{arith}
use Rattle.tables.proofs.Extract.{extracted}
use Rattle.tables.proofs.Extraction.{extracted_is}
use Rattle.table_listings.proofs.Listed.{lawful_table}
use Rattle.table_listings.proofs.extraction.extract_into.Goals as goal

pub take_rest-requires : goal.take_rest-requires
take_rest-requires c = let f = c.take_front-cut.ensures in
    (f.front.within, omega (arith, f.meet, f.edge, f.long, c.requires, (lawful_table c.args.table).count))

pub returns : goal.returns
returns c = let t = c.args.table in
    let f = c.take_front-cut in
    let r = c.take_rest in
    let n = 2 ^ t.shape.lg in
    extracted_is t.slots.now c.args.out.now r.new.out n t.shape.valid t.items f.result.slot
    (extracted t.slots.now c.args.out.now f.new.out r.new.out n t.shape.valid t.items _ _ _ r.result f.ensures r.ensures (lawful_table t).count) t.room
