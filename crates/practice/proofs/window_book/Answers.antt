-- `practice::window_book` meets its contract. Assumes nothing.
use mathlib.Core.Path.{refl}
use Rattle.laws.specs.Lists.{list_of}
use Rattle.practice.specs.Practice.{window_entry, window_book}
use Rattle.practice.proofs.window_book.Goals as goal

pub returns : goal.returns
unfolding list_of window_book window_entry
returns c = refl
