-- `practice::pair_book` meets its contract. Assumes nothing.
use mathlib.Core.Path.{refl}
use Rattle.laws.specs.Lists.{list_of}
use Rattle.practice.specs.Practice.{pair_entry, pair_book}
use Rattle.practice.proofs.pair_book.Goals as goal

pub returns : goal.returns
unfolding list_of pair_book pair_entry
returns c = refl
