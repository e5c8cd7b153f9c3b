-- `compression::pair_reader::PairReader::read_into` meets its contract. Assumes nothing.
use Rattle.compression.proofs.ReadingPairs.{pairs_turn, pairs_fault, pairs_end}
use Rattle.compression.proofs.pair_reader.PairReader.read_into.Goals as goal

pub returns-in-Err : goal.returns-in-Err
returns-in-Err c = let r = c.args.self in
    pairs_fault r.coded.bytes.now r.coded.table.now r.base.count r.size.k c.args.count c.args.out.now c.loop-i.out c.loop-i.state c.loop-i.i c.requires c.loop-i.invariant
    c.in-Err.reason c.loop-i-test.true c.in-Err.ensures.0

pub loop-i-preserved : goal.loop-i-preserved
loop-i-preserved c = let r = c.args.self in
    pairs_turn r.coded.bytes.now r.coded.table.now r.base.count r.size.k c.args.count c.args.out.now c.loop-i.out c.loop-i.state c.loop-i.i c.requires c.loop-i.invariant
    c.in-Ok.pair c.in-Ok.after c.loop-i-test.true c.in-Ok.ensures.1 c.in-Ok.ensures.0

pub returns : goal.returns
returns c = let r = c.args.self in
    pairs_end r.coded.bytes.now r.coded.table.now r.base.count r.size.k c.args.count c.args.out.now c.loop-i.out c.loop-i.state c.loop-i.i c.requires c.loop-i.invariant
    c.loop-i-test.false
