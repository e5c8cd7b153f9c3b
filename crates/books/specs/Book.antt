-- A book: for each symbol an entry, length * 4096 + codeword. And when a book passes. Assumes nothing.
use Rattle.std.specs.Prelude.{ℕ, suc, ◌+◌, ◌/◌, ◌%◌, ◌^◌, Bool, ◌&&◌, ◌||◌, List, [], ◌∷◌, leb, ltb, eqb, length}
use Rattle.laws.specs.Choose.{choose}
use Rattle.laws.specs.Below.{one, every_below}

abbrev pub length_in : ℕ → ℕ
length_in entry = entry / 4096

abbrev pub codeword_in : ℕ → ℕ
codeword_in entry = entry % 4096

-- an entry's shape: length 1..12, codeword below 2^length
abbrev pub shaped : ℕ → Bool
shaped entry = leb 1 (length_in entry) && (leb (length_in entry) 12 && ltb (codeword_in entry) (2 ^ length_in entry))

-- the first symbol of wrong shape; the symbol count where there is none
unfoldable pub first_misshapen : List ℕ → ℕ
first_misshapen [] = 0
first_misshapen (entry ∷ more) = choose (shaped entry) (suc (first_misshapen more)) 0

-- the entry's codeword is the number's low bits
abbrev pub is_low_bits : ℕ → ℕ → Bool
is_low_bits entry n = eqb (n % 2 ^ length_in entry) (codeword_in entry)

-- how many symbols have a codeword that is the number's low bits
unfoldable pub symbols_at : List ℕ → ℕ → ℕ
symbols_at [] n = 0
symbols_at (entry ∷ more) n = one (is_low_bits entry n) + symbols_at more n

-- each number below 4,096 has exactly one symbol
abbrev pub one_symbol_each : List ℕ → Bool
one_symbol_each book = every_below 4096 (λ n. eqb (symbols_at book n) 1)

-- 65 entries for pairs, 256 for a window
abbrev pub sized : List ℕ → Bool
sized book = eqb (length book) 65 || eqb (length book) 256
