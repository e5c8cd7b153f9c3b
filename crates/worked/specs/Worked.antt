-- Document 01's starred worked numbers, as one table under one statement. Assumes nothing.
use Rattle.std.specs.Prelude.{◌≡◌, List, [], ◌∷◌, ℕ, get_or}
use Rattle.refusals.specs.Outcome.{accepted}
use Rattle.numbers.specs.declared.Flavor.{Flavor}
use Rattle.numbers.specs.declared.Flavor.TheVariants.{Sparse, Hybrid, Pinned, Sliding}
use Rattle.numbers.specs.Told.{flavor_number}
use Rattle.numbers.specs.Calls.{flavor_of, offset_of, phase_of}
use Rattle.practice.specs.Practice.{pair_book, window_book}
use Rattle.tables.specs.Listings.{stride_at}

-- a line of the table: what is asked, and the answer
pub data Line : Type 0 where
  -- at an lg_k and so many coupons
  flavor : ℕ → ℕ → Flavor → Line
  offset phase : ℕ → ℕ → ℕ → Line
  -- a symbol of the practice pair book, a byte of the practice window book
  symbol byte : ℕ → ℕ → Line
  -- of the walk, at an lg
  stride : ℕ → ℕ → Line

abbrev pub Holds : Line → Type 0
Holds (flavor lg c f) = flavor_of lg c ≡ accepted (flavor_number f ∷ [])
Holds (offset lg c o) = offset_of lg c ≡ accepted (o ∷ [])
Holds (phase lg c p) = phase_of lg c ≡ accepted (p ∷ [])
Holds (symbol x entry) = get_or pair_book x 0 ≡ entry
Holds (byte b entry) = get_or window_book b 0 ≡ entry
Holds (stride lg slots) = stride_at lg ≡ slots

abbrev pub Every : List Line → Type 0
Every [] = Unit {0}
Every (l ∷ ls) = Holds l × Every ls

abbrev pub table : List Line
table =
    flavor 4 1 Sparse
    ∷ flavor 4 2 Hybrid
    ∷ flavor 4 7 Hybrid
    ∷ flavor 4 8 Pinned
    ∷ flavor 4 53 Pinned
    ∷ offset 4 53 0
    ∷ flavor 4 54 Sliding
    ∷ offset 4 54 1
    ∷ offset 4 1024 61
    ∷ phase 4 11 16
    ∷ phase 4 12 17
    ∷ phase 4 36 21
    ∷ phase 4 37 6
    ∷ phase 4 39 7
    ∷ phase 4 48 0
    ∷ symbol 0 4097
    ∷ symbol 5 36880
    ∷ symbol 7 41008
    ∷ symbol 64 41968
    ∷ byte 255 37374
    ∷ stride 2 3
    ∷ stride 3 5
    ∷ stride 4 9
    ∷ []
