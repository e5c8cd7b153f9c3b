-- `compression::writer::Writer::close` meets its contract. Assumes nothing.
use Rattle.compression.proofs.WrittenWords.{closed}
use Rattle.compression.proofs.writer.Writer.close.Goals as goal

pub returns : goal.returns
returns c = let a = c.args in
    closed a.out.now c.put-padded.new.out c.finish.new.out a.self c.put-padded.result a.pad c.finish.result c.put-padded.ensures
    c.finish.ensures c.bits-bits.result c.words_for.result c.bits-bits.ensures c.words_for.ensures
    (λ i. (c.type_inv.out i).fits)
