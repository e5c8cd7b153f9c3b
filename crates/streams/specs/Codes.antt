-- What a writer puts: codes, each a value of some bits, one above the other. Assumes nothing.
use Rattle.std.specs.Prelude.{ℕ, ◌+◌, ◌*◌, ◌%◌, ◌^◌, List, [], ◌∷◌, get_or}
use Rattle.books.specs.Book.{length_in, codeword_in}

pub record Code : Type 0 where
  pub value : ℕ
  pub count : ℕ

-- how many bits codes have
unfoldable pub total : List Code → ℕ
total [] = 0
total (code ∷ codes) = code.count + total codes

-- the number that codes make, the first one lowest
unfoldable pub pack : List Code → ℕ
pack [] = 0
pack (code ∷ codes) = code.value + 2 ^ code.count * pack codes

-- the book's code of a symbol
abbrev pub book_code : List ℕ → ℕ → Code
book_code book symbol = record { value = codeword_in (get_or book symbol 0); count = length_in (get_or book symbol 0) }

-- so many zeros and a one
abbrev pub zeros_one : ℕ → Code
zeros_one zeros = record { value = 2 ^ zeros; count = zeros + 1 }

-- the b low bits of a number
abbrev pub low_bits : ℕ → ℕ → Code
low_bits b n = record { value = n % 2 ^ b; count = b }
