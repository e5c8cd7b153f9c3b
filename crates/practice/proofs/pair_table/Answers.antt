-- `practice::pair_table` meets its contract. Assumes nothing.
use mathlib.Core.Path.{refl}
use Rattle.books.specs.Table.{decoded_from}
use Rattle.laws.specs.Lists.{list_of}
use Rattle.practice.specs.Practice.{pair_entry, pair_book}
use Rattle.practice.proofs.Table.{right_table}
use Rattle.practice.proofs.pair_table.Goals as goal

pub returns : goal.returns
unfolding decoded_from list_of pair_book pair_entry
returns c = right_table pair_book _ refl tt
