-- `compression::reader::zeros_in` meets its contract. Assumes nothing.
use Rattle.compression.proofs.ZerosLooks.{byte_zeros}
use Rattle.compression.proofs.reader.zeros_in.Goals as goal

pub returns : goal.returns
returns c = byte_zeros c.args.bits c.requires
