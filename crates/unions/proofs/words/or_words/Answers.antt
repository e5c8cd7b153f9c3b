-- `unions::words::or_words` meets its contract. Assumes nothing.
use Rattle.laws.proofs.Columns.{has_or}
use Rattle.laws.proofs.Words.{word_is}
use lib.Bits.{or_lt}
use Rattle.unions.proofs.words.or_words.Goals as goal

pub returns : goal.returns
returns c = word_is 64 _ _ (or_lt 64 _ _ c.ranges.a.fits c.ranges.b.fits) (λ d l. has_or c.args.a c.args.b d)
