-- The decoding table of a book. Assumes nothing.
use Rattle.std.specs.Prelude.{ℕ, suc, ◌+◌, ◌*◌, Bool, List, [], ◌∷◌, eqb, get_or}
use Rattle.laws.specs.Choose.{choose}
use Rattle.laws.specs.Below.{every_below}
use Rattle.laws.specs.Lists.{list_of}
use Rattle.books.specs.Book.{length_in, is_low_bits}

-- length * 256 + symbol, of the first symbol whose codeword is the number's low bits; the symbols are counted from x
unfoldable pub decoded_from : ℕ → List ℕ → ℕ → ℕ
decoded_from x [] n = 0
decoded_from x (entry ∷ more) n = choose (is_low_bits entry n) (length_in entry * 256 + x) (decoded_from (suc x) more n)

abbrev pub decoded : List ℕ → ℕ → ℕ
decoded book n = decoded_from 0 book n

-- the book's decoding table: at each number below 4,096 its symbol and that symbol's length
unfoldable pub table_of : List ℕ → List ℕ
table_of book = list_of 4096 (decoded book)

-- a lent table of 4,096 entries is the book's
abbrev pub is_table_of : List ℕ → List ℕ → Bool
is_table_of book table = every_below 4096 (λ n. eqb (get_or table n 0) (decoded book n))
