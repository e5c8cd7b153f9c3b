-- `compression::window_reader::read_into` meets its contract. Assumes nothing.
use native.Mathlib.Omega.{arith}
use Rattle.compression.proofs.ReadingWindow.{window_turn, window_cut, window_end}
use Rattle.compression.proofs.window_reader.read_into.Goals as goal

pub returns-in-Err : goal.returns-in-Err
returns-in-Err c = let r = c.args.coded in
    window_cut r.bytes.now r.table.now c.args.window.now c.loop-i.window c.loop-i.cursor c.loop-i.i c.loop-i.invariant c.in-Err.cut.bit
    (omega (arith, c.loop-i-test.true)) c.in-Err.ensures

pub loop-i-preserved : goal.loop-i-preserved
loop-i-preserved c = let r = c.args.coded in
    window_turn r.bytes.now r.table.now c.args.window.now c.loop-i.window c.loop-i.cursor c.loop-i.i c.loop-i.invariant c.in-Ok.byte
    c.in-Ok.after (omega (arith, c.loop-i-test.true)) c.in-Ok.ensures.1 c.in-Ok.ensures.0

pub returns : goal.returns
returns c = let r = c.args.coded in
    window_end r.bytes.now r.table.now c.args.window.now c.loop-i.window c.loop-i.cursor c.loop-i.i c.loop-i.invariant
    (omega (arith, c.loop-i-test.false))
