-- `compression::writer::put_word` meets its contract. Assumes nothing.
use mathlib.Core.Path.{◌∙◌}
use Rattle.compression.proofs.WritingBytes.{word_put}
use Rattle.compression.proofs.writer.put_word.Goals as goal

pub returns : goal.returns
returns c = word_put c.args.out.now c.copy_from_slice.new.self c.args.i c.args.word c.requires (c.copy_from_slice.ensures.after ∙ c.to_le_bytes.ensures)
