-- `compression::writer::Writer::finish` meets its contract. Assumes nothing.
use native.Mathlib.Omega.{arith}
use Rattle.compression.proofs.PuttingValues.{finish_last}
use Rattle.compression.proofs.writer.Writer.finish.Goals as goal

pub returns : goal.returns
returns c = let call = c.put_word in
    finish_last c.args.out.now c.args.self c.requires.0 call.new.out (omega arith) (omega arith) call.auto.out call.ensures
