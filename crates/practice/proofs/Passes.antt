-- The practice books pass the check: their shapes and sums are computed, and so is that every number has a symbol. Assumes nothing.
use mathlib.Core.Path.{◌≡◌, refl}
use mathlib.Core.Bool.{Bool, true}
use mathlib.Core.List.{List, []}
use Prim.Native.Nat.{ℕ}
use borrow.Author.Tests.{ltb-true}
use lib.Dec.{ltb}
use lib.ListN.{length}
use Rattle.laws.specs.Below.{every_below}
use Rattle.laws.specs.Lists.{list_of}
use Rattle.laws.proofs.Below.{every_at}
use Rattle.refusals.specs.Outcome.{accepted}
use Rattle.books.specs.Book.{first_misshapen, sized}
use Rattle.books.specs.Table.{decoded, decoded_from, table_of}
use Rattle.books.specs.Calls.{check_of}
use Rattle.books.specs.Steps.{taken}
use Rattle.books.specs.Uses.{Matches}
use Rattle.books.proofs.Covered.{decoded_some, covered_passes}
use Rattle.books.proofs.Accepted.{own_table}
use Rattle.practice.specs.Practice.{pair_entry, pair_book, window_entry, window_book}

-- every number is decoded
abbrev decodes : List ℕ → Bool
decodes book = every_below 4096 (λ n. ltb 0 (decoded book n))

passes : (book : List ℕ) → sized book ≡ true → first_misshapen book ≡ length book → taken book ≡ 4096 → decodes book ≡ true → check_of book ≡ accepted []
passes book s e sum d =
    covered_passes book e sum
    (λ n l. decoded_some 0 book n (ltb-true 0 (decoded book n) (every_at 4096 (λ n. ltb 0 (decoded book n)) d n l))) s

pub pair_passes : check_of pair_book ≡ accepted []
unfolding pair_book pair_entry list_of first_misshapen taken every_below decoded_from
pair_passes = passes pair_book refl refl refl refl

pub window_passes : check_of window_book ≡ accepted []
unfolding window_book window_entry list_of first_misshapen taken every_below decoded_from
window_passes = passes window_book refl refl refl refl

-- so readers and writers have what they need of the window's
pub window_matches : Matches window_book (table_of window_book)
window_matches = own_table window_book window_passes
