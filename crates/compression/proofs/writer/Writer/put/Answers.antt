-- `compression::writer::Writer::put` meets its contract. Assumes nothing.
use native.Mathlib.Omega.{arith}
use Rattle.compression.proofs.PuttingValues.{put_kept, put_flushed}
use Rattle.compression.proofs.writer.Writer.put.Goals as goal

pub returns-then-full-lt32 : goal.returns-then-full-lt32
returns-then-full-lt32 c = let a = c.args in
    put_kept a.out.now a.self a.value a.count c.requires.0 c.requires.1 c.requires.2 (omega arith)

pub returns : goal.returns
returns c = let a = c.args in
    let call = c.put_word in
    put_flushed a.out.now a.self a.value a.count c.requires.0 c.requires.1 c.requires.2 call.new.out (omega arith) (omega arith)
    call.auto.out call.ensures
