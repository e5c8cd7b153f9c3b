-- `compression::reader::Cursor::skip` meets its contract. Assumes nothing.
use native.Mathlib.Omega.{arith}
use Rattle.compression.proofs.ReaderBuffer.{skip_stands}
use Rattle.compression.proofs.reader.Cursor.skip.Goals as goal

pub returns : goal.returns
returns c = λ s st. (skip_stands s c.args.self c.args.count st c.requires.0, omega arith)
