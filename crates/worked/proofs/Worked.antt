-- Every line of the table holds: antt computes each. Assumes nothing.
use mathlib.Core.Path.{refl}
use Rattle.laws.specs.Lists.{list_of}
use Rattle.numbers.specs.Numbers.{flavor_at, offset_at, middle_phase_at, phase_at}
use Rattle.numbers.specs.Calls.{flavor_of, offset_of, phase_of}
use Rattle.practice.specs.Practice.{pair_entry, pair_book, window_entry, window_book}
use Rattle.tables.specs.Listings.{stride_at}
use Rattle.worked.specs.Worked.{Every, table}

pub worked : Every table
unfolding flavor_at flavor_of offset_at offset_of middle_phase_at phase_at phase_of pair_entry pair_book window_entry window_book list_of stride_at
worked =
    (refl, (refl, (refl, (refl, (refl, (refl, (refl, (refl, (refl, (refl, (refl, (refl, (refl, (refl, (refl, (refl, (refl, (refl, (refl, (refl, (refl, (refl, (refl, tt)))))))))))))))))))))))
