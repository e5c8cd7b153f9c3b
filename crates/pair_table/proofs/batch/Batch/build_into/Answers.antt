-- `pair_table::batch::Batch::build_into` meets its contract. Assumes nothing.
use Rattle.pair_table.proofs.RisingLists.{rest_needs, rest_built}
use Rattle.pair_table.proofs.batch.Batch.build_into.Goals as goal

pub build_rest-requires : goal.build_rest-requires
build_rest-requires c = let b = c.args.self in
    let r = c.build_rising-risen in
    rest_needs b.list.now c.args.slots.now r.new.slots b.shape.lg b.shape.valid r.result.least c.saturating_sub.result r.result.count c.requires r.ensures c.saturating_sub.ensures

pub returns : goal.returns
returns c = let b = c.args.self in
    let r = c.build_rising-risen in
    let k = c.build_rest in
    rest_built b.list.now c.args.slots.now r.new.slots k.new.slots b.shape.lg b.shape.valid r.result.least r.result.count k.result c.requires r.ensures k.ensures
