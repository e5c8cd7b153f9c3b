-- `table_listings::walking::strides` meets its contract. Assumes nothing.
use mathlib.Core.Path.{refl}
use Rattle.tables.specs.Listings.{stride_at}
use Rattle.table_listings.proofs.Strides.{right_strides}
use Rattle.table_listings.proofs.walking.strides.Goals as goal

pub returns : goal.returns
unfolding stride_at
returns c = right_strides _ refl tt
